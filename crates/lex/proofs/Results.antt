-- The code's `Result`s, as the answers that they say: what each step of a code with `?` knows.
use Rattle.std.proofs.Common.{◌≡◌, ℕ, List, Bool, true, false, refl, sym, ap, ◌∙◌, arith, rules, Option, Some, None, Ok, Err, Break, Continue, Result, IsErrAnd}
use Rattle.std.specs.Result.{result_from_control_flow}
use Rattle.rules.specs.Forest.{Forest}
use Rattle.rules.specs.Rule.{Rule}
use Rattle.lex.specs.Answer.{Ans, Got, No, number, refused, answered, said, counted_in, told, offered, flag}
use Rattle.lex.specs.Answer.{refused_as, answered_as, said_as, counted_in_as}
use Rattle.lex.specs.Contract.{Leaf}
use Rattle.lex.specs.declared.refusal.Refusal.{Refusal}
use Rattle.lex.specs.declared.numbered.RefusedAs.{RefusedAs}

-- A refusal is one of some number, at some places.
pub refused_is : (e : Refusal)
    → refused e ≡ No (number e.reason) e.first.start e.first.end e.second.start e.second.end
unfolding refused
refused_is e = refl

pub refused_as_is : {N : Type 0} (f : N → ℕ) (e : RefusedAs N)
    → refused_as f e ≡ No (f e.number) e.first.start e.first.end e.second.start e.second.end
unfolding refused_as
refused_as_is f e = refl

-- A refusal that is made here.
pub leaf_as : (e : Refusal) {v : Ans} {w : Bool → Forest → ℕ} {s : List ℕ} {t : Rule} {at k : ℕ}
    → refused e ≡ v
    → Leaf w v s t at k
    → Leaf w (refused e) s t at k
leaf_as e h l = rw h l

-- Where `?` hands a refusal up, the result is that refusal.
pub err_is : {E B : Type 0} {r : Result B E} (e : E) → IsErrAnd r (λ y. y ≡ e) → r ≡ Err e
err_is {r = Ok x} e h = absurd h
err_is {r = Err y} e h = ap Err h

-- Where `?` makes another type of it, the result says that refusal.
pub err_says : {B : Type 0} (h : B → Ans) (r : Result B Refusal) {v : Ans}
    → IsErrAnd r (λ y. refused y ≡ v)
    → answered h r ≡ v
err_says h (Ok x) e = absurd e
err_says h (Err y) e = e

pub err_says_as : {N B : Type 0} (f : N → ℕ) (h : B → Ans) (r : Result B (RefusedAs N)) {v : Ans}
    → IsErrAnd r (λ y. refused_as f y ≡ v)
    → answered_as f h r ≡ v
err_says_as f h (Ok x) e = absurd e
err_says_as f h (Err y) e = e

-- Behind `?`: what was read is known.
pub said_ok : {x : Result ℕ Refusal} {b : _} {p : ℕ} → x ≡ result_from_control_flow b → b ≡ Continue p → said x ≡ Got p 0
said_ok h k = rw (h, k) refl

pub counted_ok : {x : Result (ℕ × ℕ) Refusal} {b : _} {p m : ℕ}
    → x ≡ result_from_control_flow b
    → b ≡ Continue (p, m)
    → counted_in x ≡ Got p m
counted_ok h k = rw (h, k) refl

pub said_as_ok : {N : Type 0} (f : N → ℕ) {x : Result ℕ (RefusedAs N)} {b : _} {p : ℕ}
    → x ≡ result_from_control_flow b
    → b ≡ Continue p
    → said_as f x ≡ Got p 0
said_as_ok f h k = rw (h, k) refl

pub counted_as_ok : {N : Type 0} (f : N → ℕ) {x : Result (ℕ × ℕ) (RefusedAs N)} {b : _} {p m : ℕ}
    → x ≡ result_from_control_flow b
    → b ≡ Continue (p, m)
    → counted_in_as f x ≡ Got p m
counted_as_ok f h k = rw (h, k) refl

pub told_ok : {x : Result (ℕ × Bool) Refusal} {b : _} {p : ℕ} {g : Bool}
    → x ≡ result_from_control_flow b
    → b ≡ Continue (p, g)
    → told x ≡ Got p (flag g)
told_ok h k = rw (h, k) refl

module _ {x : Result (Option ℕ) Refusal} (at : ℕ) {b : _} {o : Option ℕ} (h : x ≡ result_from_control_flow b)
    (k : b ≡ Continue o) where
  pub offered_some : {p : ℕ} → o ≡ Some p → offered at x ≡ Got p 1
  offered_some i = rw (h, k, i) refl

  pub offered_none : o ≡ None → offered at x ≡ Got at 0
  offered_none i = rw (h, k, i) refl

-- A flag, as the number that the rules' answers have.
pub flag_down : {g : Bool} → g ≡ false → flag g ≡ 0
flag_down h = rw h refl

pub flag_up : {g : Bool} → g ≡ true → flag g ≡ 0 → ⊥
flag_up h e = let z : flag true ≡ 0 = sym (ap flag h) ∙ e in omega (arith, z)

-- What goes on has the number 1.
pub one_up : ◌≡◌ {A = ℕ} 1 0 → ⊥
one_up e = omega (arith, e)

pub ruleset results = (rules, refused_is, flag_down, flag_up, one_up)

pub ruleset results_made = (results, leaf_as)
