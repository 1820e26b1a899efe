-- An opening tag's answer, and what it is without what it says of the name.
use Rattle.std.proofs.Common.{◌≡◌, ℕ, Bool, true, false, not, refl, sym, ap, arith, Continue, Result}
use Rattle.std.specs.Result.{result_from_control_flow}
use Rattle.lex.specs.Answer.{number, refused, flag}
use Rattle.lex.specs.declared.refusal.Refusal.{Refusal}
use Rattle.reader.specs.declared.Tagged.{Tagged}
use Rattle.reader.specs.Contract.{Got, No, plain, tag_refused, tagged_in}

-- A refusal, as a tag's answer, is one of some number, at some places;
pub tag_refused_is : (e : Refusal)
    → tag_refused e ≡ No (number e.reason) e.first.start e.first.end e.second.start e.second.end
unfolding tag_refused
tag_refused_is e = refl

-- and it is that refusal.
pub plain_refused : (e : Refusal) → plain (tag_refused e) ≡ refused e
unfolding plain tag_refused refused
plain_refused e = refl

pub refused_plain : (e : Refusal) → refused e ≡ plain (tag_refused e)
refused_plain e = sym (plain_refused e)

-- Behind `?`: what was read is known.
pub tag_ok : {x : Result Tagged Refusal} {b : _} {v : Tagged}
    → x ≡ result_from_control_flow b
    → b ≡ Continue v
    → tagged_in x ≡ Got v.end v.records v.name_end v.name_records (flag v.goes_on)
tag_ok h k = rw (h, k) refl

-- A tag that stops, and one that goes on, by the test of the code.
pub tag_stops : (g : Bool) → not g ≡ true → flag g ≡ 0
tag_stops true h = let z : ◌≡◌ {A = ℕ} 0 1 = ap flag h in absurd (omega (arith, z))
tag_stops false h = refl

pub tag_goes : (g : Bool) → not g ≡ false → flag g ≡ 0 → ⊥
tag_goes true h e = omega (arith, e)
tag_goes false h e = let z : ◌≡◌ {A = ℕ} 1 0 = ap flag h in omega (arith, z)
