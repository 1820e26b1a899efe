use mathlib.Core.Path.{sym, ◌∙◌}
use Prim.Native.Nat.{◌-◌}
use borrow.Author.Tests.{ne_eqb}
use Rattle.rules.proofs.Run.{never}
use Rattle.name.proofs.This.{this_long, this_told, this_not_begun}
use Rattle.name.proofs.is_this.Goals.{then-b-a-eq4, else-b-a-eq4}
use Rattle.name.proofs.is_this.Goals as goal

pub returns-then-two_at : goal.returns-then-two_at
returns-then-two_at c =
    elim c.if-b-a-eq4.branch [
      | then-b-a-eq4 w ↦
          this_told c.args.s.now c.args.a c.args.b w.if-b-a-eq4.true w.two_at.ensures (sym w.value-is ∙ c.if-two_at.true)
          c.two_at-then-two_at.ensures
      | else-b-a-eq4 w ↦
          never (sym (ne_eqb (c.args.b - c.args.a) 4 w.if-b-a-eq4.false) ∙ sym w.value-is ∙ c.if-two_at.true)
    ]

pub returns-else-two_at : goal.returns-else-two_at
returns-else-two_at c =
    elim c.if-b-a-eq4.branch [
      | then-b-a-eq4 w ↦
          c.if-two_at.false
          ∙ this_not_begun c.args.s.now c.args.a c.args.b w.if-b-a-eq4.true w.two_at.ensures
          (sym w.value-is ∙ c.if-two_at.false)
      | else-b-a-eq4 w ↦ c.if-two_at.false ∙ this_long c.args.s.now c.args.a c.args.b w.if-b-a-eq4.false
    ]
