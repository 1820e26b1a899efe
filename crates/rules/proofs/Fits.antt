-- How many nodes a reading makes: a byte brings one credit, a node costs one.
-- What there is may depend on whether the character here meets the test h.
use mathlib.Core.Path.{◌≡◌, refl, sym, subst, ◌∙◌}
use mathlib.Core.Bool.{Bool, true, false}
use mathlib.Core.List.{List}
use Prim.Native.Nat.{ℕ, zero, suc, ◌+◌, ◌≤◌}
use native.Mathlib.Omega.{arith}
use lib.ListN.{length}
use lib.Dec.{ltb}
use Rattle.rules.specs.Forest.{Label, node, content, Forest, nil, byte, group, ◌⋈◌, width}
use Rattle.rules.specs.Rule.{Place, Test, Verdict, Look, char, Rule, done, stop, step, refuse, when, look, after}
use Rattle.rules.specs.Rule.{seq, many, wrap, said, marked, paired}
use Rattle.rules.specs.Parse.{Answer, got, trouble, pick, byte_at, code_at, stands, repeat, parse, parse_all}
use Rattle.rules.specs.Record.{count}
use Rattle.rules.proofs.Forests.{count_behind, width_behind}
use Rattle.rules.proofs.Run.{wide_got, never}
use Rattle.rules.proofs.Got.{trouble_got, refusal_got, got_same, then_got, pick_case, SeqOut, two, one, seq_read}
use Rattle.rules.proofs.Got.{SaidOut, so, otherwise, stopped, said_read, PairOut, lone, full, pair_out}
use Rattle.rules.proofs.Got.{wrap_read}
use Rattle.rules.proofs.Ends.{Turn, last, goon, turn, top_got}

-- n credits where the character here fails h, y where it meets it;
-- after the rule gn and gy where it goes on, kn and ky where it stops.
pub data Fits (h : Test) : (n y : ℕ) → Rule → (gn gy kn ky : ℕ) → Type 0 where
  f_weak : {n y n' y' gn gy gn' gy' kn ky kn' ky' : ℕ} {t : Rule}
      → n ≤ n'
      → y ≤ y'
      → gn' ≤ gn
      → gy' ≤ gy
      → kn' ≤ kn
      → ky' ≤ ky
      → Fits h n y t gn gy kn ky
      → Fits h n' y' t gn' gy' kn' ky'
  -- as much less before and after
  f_down : (j : ℕ) {n y gn gy kn ky : ℕ} {t : Rule}
      → Fits h (j + n) (j + y) t (j + gn) (j + gy) (j + kn) (j + ky)
      → Fits h n y t gn gy kn ky
  f_done : {n y kn ky : ℕ} → Fits h n y done n y kn ky
  f_stop : {n y gn gy : ℕ} → Fits h n y stop gn gy n y
  f_step : {i kn ky : ℕ} → Fits h i i step (suc i) (suc i) kn ky
  f_refuse : {n y gn gy kn ky m : ℕ} {w : Place} → Fits h n y (refuse m w) gn gy kn ky
  f_when : {n y gn gy kn ky : ℕ} {f : Test} {t u : Rule}
      → Fits h n y t gn gy kn ky
      → Fits h n y u gn gy kn ky
      → Fits h n y (when f t u) gn gy kn ky
  -- the rule asks h itself
  f_hungry : {n y gn gy kn ky : ℕ} {t u : Rule}
      → Fits h y y t gn gy kn ky
      → Fits h n n u gn gy kn ky
      → Fits h n y (look (char h) t u) gn gy kn ky
  -- where f fails, h fails
  f_calm : {n y z gn gy kn ky : ℕ} {f : Test} {t u : Rule}
      → ((b : ℕ) → h b ≡ true → f b ≡ true)
      → Fits h n y t gn gy kn ky
      → Fits h n z u gn gy kn ky
      → Fits h n y (look (char f) t u) gn gy kn ky
  f_look : {n y gn gy kn ky : ℕ} {w : Look} {t u : Rule}
      → Fits h n y t gn gy kn ky
      → Fits h n y u gn gy kn ky
      → Fits h n y (look w t u) gn gy kn ky
  f_after : {n y gn gy kn ky : ℕ} {f : Test} {r t u : Rule}
      → Fits h n y t gn gy kn ky
      → Fits h n y u gn gy kn ky
      → Fits h n y (after r f t u) gn gy kn ky
  f_seq : {n y mn my gn gy kn ky : ℕ} {t u : Rule}
      → Fits h n y t mn my kn ky
      → Fits h mn my u gn gy kn ky
      → Fits h n y (seq t u) gn gy kn ky
  f_many : {n y kn ky jn jy : ℕ} {t : Rule} → Fits h n y t n y kn ky → Fits h n y (many t) kn ky jn jy
  f_wrap : {n y gn gy kn ky : ℕ} {l : Forest → Label} {t : Rule}
      → Fits h n y t gn gy kn ky
      → Fits h (suc n) (suc y) (wrap l t) gn gy kn ky
  f_said : {n y mn my gn gy kn ky : ℕ} {f : Forest → Bool} {r t u : Rule}
      → Fits h n y r mn my kn ky
      → Fits h mn my t gn gy kn ky
      → Fits h mn my u gn gy kn ky
      → Fits h n y (said f r t u) gn gy kn ky
  f_marked : {n y gn gy kn ky : ℕ} {t : Rule} → Fits h n y t gn gy kn ky → Fits h n y (marked t) gn gy kn ky
  f_paired : {n y mn my cn cy gn gy kn ky d : ℕ} {t c u : Rule} {v : Forest → Forest → Verdict}
      → Fits h n y t mn my gn gy
      → Fits h mn my c cn cy cn cy
      → Fits h cn cy u gn gy gn gy
      → Fits h n y (paired t d c u v) gn gy kn ky

-- The rule leaves at most k credits fewer than it was given.
pub record Spends (h : Test) (k : ℕ) (t : Rule) : Type 0 where
  pub left : ℕ
  pub fits : Fits h (k + left) (k + left) t left left left left

-- What there is before and after, by the test of the character there.
pub record Pays (n y gn gy kn ky : ℕ) (b b' a : Bool) (o : Forest) : Type 0 where
  pub enough : count o + pick b' (pick a gy ky) (pick a gn kn) ≤ width o + pick b y n

pays_is : {n y gn gy kn ky : ℕ} {b b' a a' : Bool} {o o' : Forest}
    → a ≡ a'
    → o ≡ o'
    → Pays n y gn gy kn ky b b' a o
    → Pays n y gn gy kn ky b b' a' o'
pays_is {n} {y} {gn} {gy} {kn} {ky} {b} {b'} {a' = a'} {o} e f x =
    subst (λ (v : Forest). Pays n y gn gy kn ky b b' a' v) f (subst (λ (c : Bool). Pays n y gn gy kn ky b b' c o) e x)

pays_done : {n y kn ky : ℕ} (b : Bool) → Pays n y n y kn ky b b true nil
unfolding count width
pays_done true = record { enough = omega arith }
pays_done false = record { enough = omega arith }

pays_stop : {n y gn gy : ℕ} (b : Bool) → Pays n y gn gy n y b b false nil
unfolding count width
pays_stop true = record { enough = omega arith }
pays_stop false = record { enough = omega arith }

pays_byte : {i kn ky x : ℕ} (b b' : Bool) → Pays i i (suc i) (suc i) kn ky b b' true (byte x nil)
unfolding count width
pays_byte true true = record { enough = omega arith }
pays_byte true false = record { enough = omega arith }
pays_byte false true = record { enough = omega arith }
pays_byte false false = record { enough = omega arith }

pays_join : {n y mn my gn gy kn ky jn jy : ℕ} {b b₁ b' a : Bool} {u v o : Forest}
    → o ≡ u ⋈ v
    → Pays n y mn my jn jy b b₁ true u
    → Pays mn my gn gy kn ky b₁ b' a v
    → Pays n y gn gy kn ky b b' a o
pays_join {n} {y} {mn} {my} {gn} {gy} {kn} {ky} {b = b} {b₁} {b'} {a} {u} {v} e x z =
    subst (Pays n y gn gy kn ky b b' a) (sym e) (record { enough = omega (arith, count_behind u v, width_behind u v) })

pays_group : {n y gn gy kn ky : ℕ} {b' a : Bool} (b : Bool) (l : Label) {u : Forest}
    → Pays n y gn gy kn ky b b' a u
    → Pays (suc n) (suc y) gn gy kn ky b b' a (group l u nil)
unfolding count width
pays_group true (node k x) h = record { enough = omega arith }
pays_group true (content d) h = record { enough = omega arith }
pays_group false (node k x) h = record { enough = omega arith }
pays_group false (content d) h = record { enough = omega arith }

pays_content : {n y mn my gn gy d : ℕ} {b b₁ b' : Bool} {u v : Forest}
    → Pays n y mn my mn my b b₁ true u
    → Pays mn my gn gy gn gy b₁ b' true v
    → Pays n y gn gy gn gy b b' true (group (content d) u v)
unfolding count width
pays_content x z = record { enough = omega arith }

-- Where as much is left in both cases, no matter which it was.
pays_same : {n y gn gy kn ky : ℕ} {b b' : Bool} (a : Bool) {o : Forest}
    → Pays n y gn gy gn gy b b' a o
    → Pays n y gn gy kn ky b b' true o
pays_same true h = record { enough = h.enough }
pays_same false h = record { enough = h.enough }

pays_last : {n y gn gy kn ky jn jy : ℕ} {b b' : Bool} {o : Forest}
    → Pays n y gn gy kn ky b b' false o
    → Pays n y kn ky jn jy b b' true o
pays_last h = record { enough = h.enough }

pays_off : {n y gn gy gn' gy' kn ky : ℕ} {b b' : Bool} {o : Forest}
    → Pays n y gn gy kn ky b b' false o
    → Pays n y gn' gy' kn ky b b' false o
pays_off h = record { enough = h.enough }

-- A choice of two numbers, each no more than its like.
pick_le : (b : Bool) {x y x' y' : ℕ} → x ≤ x' → y ≤ y' → pick b x y ≤ pick b x' y'
pick_le true p q = p
pick_le false p q = q

-- A choice of two numbers, each no less than a third.
pub pick_least : (b : Bool) {x y z : ℕ} → z ≤ x → z ≤ y → z ≤ pick b x y
pick_least true p q = p
pick_least false p q = q

-- The same number more in both.
pick_plus : (j : ℕ) (b : Bool) (x y : ℕ) → pick b (j + x) (j + y) ≡ j + pick b x y
pick_plus j true x y = refl
pick_plus j false x y = refl

-- A choice of the same.
pub pick_same : (b : Bool) (x : ℕ) → pick b x x ≡ x
pick_same true x = refl
pick_same false x = refl

-- More before, less after.
pays_weak : {n y n' y' gn gy gn' gy' kn ky kn' ky' : ℕ} (b b' a : Bool) {o : Forest}
    → n ≤ n' → y ≤ y' → gn' ≤ gn → gy' ≤ gy → kn' ≤ kn → ky' ≤ ky
    → Pays n y gn gy kn ky b b' a o → Pays n' y' gn' gy' kn' ky' b b' a o
pays_weak b b' a p q r s t u h =
    record { enough = omega (arith, h.enough, pick_le b q p, pick_le b' (pick_le a s u) (pick_le a r t)) }

-- As much less before and after.
pays_down : (j : ℕ) {n y gn gy kn ky : ℕ} (b b' a : Bool) {o : Forest}
    → Pays (j + n) (j + y) (j + gn) (j + gy) (j + kn) (j + ky) b b' a o → Pays n y gn gy kn ky b b' a o
pays_down j {n} {y} {gn} {gy} {kn} {ky} b b' a {o} h = record { enough = omega (arith, h.enough, before, after) }
  where
    before : pick b (j + y) (j + n) ≡ j + pick b y n
    before = pick_plus j b y n

    after : pick b' (pick a (j + gy) (j + ky)) (pick a (j + gn) (j + kn)) ≡ j + pick b' (pick a gy ky) (pick a gn kn)
    after =
        (λ i. pick b' (pick_plus j a gy ky i) (pick_plus j a gn kn i)) ∙ pick_plus j b' (pick a gy ky) (pick a gn kn)

-- One of two rules, by h itself.
hungry : {n y gn gy kn ky : ℕ} (c : Bool) {b' a : Bool} {o : Forest} {p : ℕ} (x z : Answer)
    → pick c x z ≡ got a o p
    → (x ≡ got a o p → Pays y y gn gy kn ky c b' a o)
    → (z ≡ got a o p → Pays n n gn gy kn ky c b' a o)
    → Pays n y gn gy kn ky c b' a o
hungry true x z e f g = record { enough = (f e).enough }
hungry false x z e f g = record { enough = (g e).enough }

-- One of two rules, by a test that holds where h does.
calm : {n y w gn gy kn ky : ℕ} (c k : Bool) {b' a : Bool} {o : Forest} {p : ℕ} (x z : Answer)
    → (c ≡ true → k ≡ true)
    → pick k x z ≡ got a o p
    → (x ≡ got a o p → Pays n y gn gy kn ky c b' a o)
    → (z ≡ got a o p → Pays n w gn gy kn ky c b' a o)
    → Pays n y gn gy kn ky c b' a o
calm true true x z i e f g = f e
calm false true x z i e f g = f e
calm true false x z i e f g = never (i refl)
calm false false x z i e f g = record { enough = (g e).enough }

module _ (h : Test) (s : List ℕ) (F : ℕ) where
  pays_moved : {n y gn gy kn ky : ℕ} {b a : Bool} {o : Forest} {q p : ℕ}
      → q ≡ p
      → Pays n y gn gy kn ky b (h (code_at s q)) a o
      → Pays n y gn gy kn ky b (h (code_at s p)) a o
  pays_moved {n} {y} {gn} {gy} {kn} {ky} {b} {a} {o} e x =
      subst (λ (r : ℕ). Pays n y gn gy kn ky b (h (code_at s r)) a o) e x

  pays_seq : {n y mn my gn gy kn ky : ℕ} {x : Answer} {f : ℕ → Answer} (at : ℕ) {a : Bool} {o : Forest} {p : ℕ}
      → SeqOut x f a o p
      → ((b : Bool) (v : Forest) (q : ℕ) → x ≡ got b v q
      → Pays n y mn my kn ky (h (code_at s at)) (h (code_at s q)) b v)
      → ((q : ℕ) (v : Forest) → f q ≡ got a v p → Pays mn my gn gy kn ky (h (code_at s q)) (h (code_at s p)) a v)
      → Pays n y gn gy kn ky (h (code_at s at)) (h (code_at s p)) a o
  pays_seq at (two o₁ p₁ o₂ x z w) hx hz = pays_join w (hx true o₁ p₁ x) (hz p₁ o₂ z)
  pays_seq at {o = o} {p} (one x e) hx hz = pays_is (sym e) refl (pays_off (hx false o p x))

  pays_said : {n y mn my gn gy kn ky : ℕ} {k : Forest → Bool} {x : Answer} {f g : ℕ → Answer}
      (at : ℕ) {a : Bool} {o : Forest} {p : ℕ}
      → SaidOut k x f g a o p
      → ((b : Bool) (v : Forest) (q : ℕ) → x ≡ got b v q
      → Pays n y mn my kn ky (h (code_at s at)) (h (code_at s q)) b v)
      → ((q : ℕ) (v : Forest) → f q ≡ got a v p → Pays mn my gn gy kn ky (h (code_at s q)) (h (code_at s p)) a v)
      → ((q : ℕ) (v : Forest) → g q ≡ got a v p → Pays mn my gn gy kn ky (h (code_at s q)) (h (code_at s p)) a v)
      → Pays n y gn gy kn ky (h (code_at s at)) (h (code_at s p)) a o
  pays_said at (so o₁ p₁ o₂ x c z w) hx hf hg = pays_join w (hx true o₁ p₁ x) (hf p₁ o₂ z)
  pays_said at (otherwise o₁ p₁ o₂ x c z w) hx hf hg = pays_join w (hx true o₁ p₁ x) (hg p₁ o₂ z)
  pays_said at {o = o} {p} (stopped x e) hx hf hg = pays_is (sym e) refl (pays_off (hx false o p x))

  pays_loop : {n y kn ky jn jy : ℕ} (body : ℕ → Answer)
      → ((at : ℕ) (b : Bool) (v : Forest) (q : ℕ) → body at ≡ got b v q
      → Pays n y n y kn ky (h (code_at s at)) (h (code_at s q)) b v)
      → (f at : ℕ) {a : Bool} {o : Forest} {p : ℕ} → repeat body f at ≡ got a o p
      → Pays n y kn ky jn jy (h (code_at s at)) (h (code_at s p)) a o
  unfolding repeat
  pays_loop body hb zero at e = trouble_got e
  pays_loop {n} {y} {kn} {ky} {jn} {jy} body hb (suc f) at {a} {o} {p} e =
      let t = turn body f at e in pays_is (sym t.0) refl (go t.1 (λ q v r. pays_loop body hb f q r))
    where
      go : Turn body f at o p
          → ((q : ℕ) (v : Forest) → repeat body f q ≡ got true v p
          → Pays n y kn ky jn jy (h (code_at s q)) (h (code_at s p)) true v)
          → Pays n y kn ky jn jy (h (code_at s at)) (h (code_at s p)) true o
      go (last r) ih = pays_last (hb at false o p r)
      go (goon u q v r l rest w) ih = pays_join w (hb at true u q r) (ih q v rest)

  -- A loop whose first turn, if any is read, leaves more or less than it was given.
  pub pays_first : {n y m z kn ky jn jy : ℕ} (body : ℕ → Answer) (f at : ℕ) {a : Bool} {o : Forest} {p : ℕ}
      → ((b : Bool) (v : Forest) (q : ℕ) → body at ≡ got b v q
      → Pays n y m z kn ky (h (code_at s at)) (h (code_at s q)) b v)
      → ((at : ℕ) (b : Bool) (v : Forest) (q : ℕ) → body at ≡ got b v q
      → Pays m z m z kn ky (h (code_at s at)) (h (code_at s q)) b v)
      → repeat body f at ≡ got a o p
      → Pays n y kn ky jn jy (h (code_at s at)) (h (code_at s p)) a o
  unfolding repeat
  pays_first body zero at hf hb e = trouble_got e
  pays_first {n} {y} {kn = kn} {ky} {jn} {jy} body (suc f) at {a} {o} {p} hf hb e =
      let t = turn body f at e in pays_is (sym t.0) refl (go t.1)
    where
      go : Turn body f at o p → Pays n y kn ky jn jy (h (code_at s at)) (h (code_at s p)) true o
      go (last r) = pays_last (hf false o p r)
      go (goon u q v r l rest w) = pays_join w (hf true u q r) (pays_loop body hb f q rest)

  pays_step : {i kn ky : ℕ} (e at : ℕ) {a : Bool} {o : Forest} {p : ℕ}
      → parse s F step e at ≡ got a o p
      → Pays i i (suc i) (suc i) kn ky (h (code_at s at)) (h (code_at s p)) a o
  unfolding parse
  pays_step {i} {kn} {ky} e at {a} {o} {p} k = go (ltb at (length s)) k
    where
      go : (c : Bool)
          → pick c (got true (byte (byte_at s at) nil) (at + 1)) (trouble 4 at at 0 0) ≡ got a o p
          → Pays i i (suc i) (suc i) kn ky (h (code_at s at)) (h (code_at s p)) a o
      go true k =
          let x = got_same k in
          pays_moved x.2 (pays_is x.0 x.1 (pays_byte (h (code_at s at)) (h (code_at s (at + 1)))))
      go false k = trouble_got k

  pays_pair : {n y mn my cn cy gn gy kn ky d : ℕ} {t c u : Rule} {v : Forest → Forest → Verdict} {e at : ℕ} {a : Bool}
      {o : Forest} {p : ℕ}
      → PairOut s F d t c u v e at a o p
      → ((b : Bool) (w : Forest) (q : ℕ) → parse s F t e at ≡ got b w q
      → Pays n y mn my gn gy (h (code_at s at)) (h (code_at s q)) b w)
      → ((q : ℕ) (b : Bool) (w : Forest) (z : ℕ) → parse s F c e q ≡ got b w z
      → Pays mn my cn cy cn cy (h (code_at s q)) (h (code_at s z)) b w)
      → ((q : ℕ) (b : Bool) (w : Forest) → parse s F u e q ≡ got b w p
      → Pays cn cy gn gy gn gy (h (code_at s q)) (h (code_at s p)) b w)
      → Pays n y gn gy kn ky (h (code_at s at)) (h (code_at s p)) a o
  pays_pair {o = o} {p} (lone x e) ht hc hu = pays_is (sym e) refl (pays_last (ht false o p x))
  pays_pair {gn = gn} {gy} (full o₁ p₁ b w p₂ b₂ r x z k nm q e) ht hc hu =
      pays_is (sym e) refl (pays_join q (ht true o₁ p₁ x)
      (pays_same {kn = _} {ky = _} true (pays_content (pays_same b (hc p₁ b w p₂ z)) (pays_same b₂ (hu p₂ b₂ r k)))))

  -- What a rule reads is paid for by its bytes and the credits before it, and leaves the credits after it.
  pub pays : {n y gn gy kn ky : ℕ} {t : Rule}
      → Fits h n y t gn gy kn ky
      → (e at : ℕ) (a : Bool) (o : Forest) (p : ℕ) → parse s F t e at ≡ got a o p
      → Pays n y gn gy kn ky (h (code_at s at)) (h (code_at s p)) a o
  unfolding parse
  pays (f_weak w₁ w₂ w₃ w₄ w₅ w₆ x) e at a o p k =
      pays_weak (h (code_at s at)) (h (code_at s p)) a w₁ w₂ w₃ w₄ w₅ w₆ (pays x e at a o p k)
  pays (f_down j x) e at a o p k = pays_down j (h (code_at s at)) (h (code_at s p)) a (pays x e at a o p k)
  pays f_done e at a o p k =
      let x = got_same k in
      pays_moved x.2 (pays_is x.0 x.1 (pays_done (h (code_at s at))))
  pays f_stop e at a o p k =
      let x = got_same k in
      pays_moved x.2 (pays_is x.0 x.1 (pays_stop (h (code_at s at))))
  pays f_step e at a o p k = pays_step e at k
  pays (f_refuse {m = m} {w}) e at a o p k = refusal_got m w e at k
  pays (f_when {f = f} {t} {u} x z) e at a o p k =
      pick_case (f (byte_at s at)) (parse s F t e at) (parse s F u e at) k (λ q. pays x e at a o p q)
      (λ q. pays z e at a o p q)
  pays (f_hungry {t = t} {u} x z) e at a o p k =
      hungry (h (code_at s at)) (parse s F t e at) (parse s F u e at) k (λ q. pays x e at a o p q)
      (λ q. pays z e at a o p q)
  pays (f_calm {f = f} {t} {u} i x z) e at a o p k =
      calm (h (code_at s at)) (f (code_at s at)) (parse s F t e at) (parse s F u e at) (i (code_at s at)) k
      (λ q. pays x e at a o p q) (λ q. pays z e at a o p q)
  pays (f_look {w = w} {t} {u} x z) e at a o p k =
      pick_case (stands s w at) (parse s F t e at) (parse s F u e at) k (λ q. pays x e at a o p q)
      (λ q. pays z e at a o p q)
  pays (f_after {f = f} {r} {t} {u} x z) e at a o p k =
      let v = then_got (parse s F r e at) _ k in
      pick_case (f (byte_at s v.2)) (parse s F t e at) (parse s F u e at) v.4 (λ q. pays x e at a o p q)
      (λ q. pays z e at a o p q)
  pays (f_seq {t = t} {u} x z) e at a o p k =
      pays_seq at (seq_read s F t u e at k) (λ b v q w. pays x e at b v q w) (λ q v w. pays z e q a v p w)
  pays (f_many {t = t} x) e at a o p k = pays_loop (parse s F t e) (λ q b v r w. pays x e q b v r w) F at k
  pays (f_wrap {n} {y} {gn} {gy} {kn} {ky} {l} {t} x) e at a o p k =
      let w = wrap_read s F l t e at k in
      pays_is refl (sym w.2) (pays_group (h (code_at s at)) (l w.0) (pays x e at a w.0 p w.1))
  pays (f_said {f = f} {r} {t} {u} x z w) e at a o p k =
      pays_said at (said_read s F f r t u e at k) (λ b v q j. pays x e at b v q j) (λ q v j. pays z e q a v p j)
      (λ q v j. pays w e q a v p j)
  pays (f_marked x) e at a o p k = pays x at at a o p k
  pays (f_paired {d = d} {t} {c} {u} {v} x z w) e at a o p k =
      pays_pair (pair_out s F d t c u v e at k) (λ b j q l. pays x e at b j q l) (λ q b j r l. pays z e q b j r l)
      (λ q b j l. pays w e q b j p l)

  -- Such a rule makes at most k nodes more than it reads bytes.
  pub thrifty : {k : ℕ} {t : Rule} → Spends h k t → (e at : ℕ) {a : Bool} {o : Forest} {p : ℕ}
      → parse s F t e at ≡ got a o p → count o ≤ width o + k
  thrifty {k} x e at {a} {o} {p} r =
      let w = (pays x.fits e at a o p r).enough in
      let i = x.left in
      omega (arith, w, pick_same (h (code_at s at)) (k + i), pick_same a i, pick_same (h (code_at s p)) (pick a i i))

  -- So it ends no more than k places before as many as it has made.
  pub thrifty_far : {k : ℕ} {t : Rule} → Spends h k t → (e at : ℕ) {a : Bool} {o : Forest} {p : ℕ}
      → parse s F t e at ≡ got a o p → at + count o ≤ p + k
  thrifty_far {t = t} x e at r = omega (arith, thrifty x e at r, wide_got s F t e at r)

-- A rule that spends nothing reads at most one node for each byte of the input.
pub one_a_byte : (h : Test) {t : Rule} → Spends h 0 t → (s : List ℕ) {a : Bool} {o : Forest} {p : ℕ}
    → parse_all t s ≡ got a o p → count o ≤ length s
unfolding parse_all
one_a_byte h {t} x s {o = o} {p} k =
    let F = suc (length s) in
    omega (arith, thrifty_far h s F x 0 0 k, top_got s F t 0 0 (omega arith) k)
