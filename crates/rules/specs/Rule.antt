-- A grammar, as data. Nothing here knows a language.
use Rattle.std.specs.Prelude.{ℕ, Bool, List}
use Rattle.rules.specs.Forest.{Label, node, Forest}

-- A question about one byte, where the end of the input counts as the byte 256; or about the code of a character.
abbrev pub Test : Type 0
Test = ℕ → Bool

-- Where a refusal points: here; at the mark; from the mark up to here; from here to the next byte.
pub data Place : Type 0 where
  here mark from_mark this_byte : Place

-- What two tags say of each other: they belong together, or a refusal's number with a place in each, start and end,
-- counted from that tag's first byte.
pub data Verdict : Type 0 where
  fine : Verdict
  differ : (number start end start₂ end₂ : ℕ) → Verdict

-- What is asked of the bytes from here on: whether these stand here; or a question about the character here.
pub data Look : Type 0 where
  bytes : List ℕ → Look
  char : Test → Look

pub data Rule : Type 0 where
  -- nothing, and go on
  done : Rule
  -- nothing, and end the innermost `many`; or, in the tag of a `paired`, end that: no content and no closing tag follow
  stop : Rule
  -- the byte here
  step : Rule
  -- a refusal: its number, and where it points
  refuse : ℕ → Place → Rule
  -- one of two rules, by the byte here
  when : Test → Rule → Rule → Rule
  -- one of two rules, by what stands here
  look : Look → Rule → Rule → Rule
  -- one of two rules, by the byte behind what the first rule reads here. The first rule's refusal counts; what it
  -- reads is not passed.
  after : Rule → Test → Rule → Rule → Rule
  -- one rule, then the other
  seq : Rule → Rule → Rule
  -- a rule again and again, until it stops
  many : Rule → Rule
  -- a group around what the rule reads, with a label made of that
  wrap : (Forest → Label) → Rule → Rule
  -- a rule, then one of two by what it has read
  said : (Forest → Bool) → Rule → Rule → Rule → Rule
  -- a rule whose mark is here
  marked : Rule → Rule
  -- a tag and, unless it stops, a content with that depth left inside it, a closing tag, and the verdict on the two
  -- tags
  paired : (tag : Rule) (depth : ℕ) (content close : Rule) → (Forest → Forest → Verdict) → Rule

infixr 40 ◌⨾◌
abbrev pub ◌⨾◌ : Rule → Rule → Rule
t ⨾ u = seq t u

infixr 30 ◌⇒◌∣◌
-- A table of choices, tried in order: `when f ⇒ t ∣ after r g ⇒ u ∣ v`.
abbrev pub ◌⇒◌∣◌ : (Rule → Rule → Rule) → Rule → Rule → Rule
choose ⇒ t ∣ u = choose t u

-- One of two rules, by whether these bytes stand here.
abbrev pub starts : List ℕ → Rule → Rule → Rule
starts w = look (bytes w)

-- One of two rules, by the character here.
abbrev pub when_char : Test → Rule → Rule → Rule
when_char f = look (char f)

-- A node of a kind, with extra word 0.
abbrev pub node_of : ℕ → Rule → Rule
node_of k t = wrap (λ o. node k 0) t
