use Rattle.same.proofs.MemberSteps.{member_asked, member_steps}
use Rattle.same.proofs.jsx_member_expression_eq.Goals as goal

pub loop-p-init : goal.loop-p-init
loop-p-init c = search member_steps

pub blanks_end-i-requires : goal.blanks_end-i-requires
blanks_end-i-requires c = search member_asked

pub blanks_end-j-requires : goal.blanks_end-j-requires
blanks_end-j-requires c = search member_asked

pub part_end-g-requires : goal.part_end-g-requires
part_end-g-requires c = search member_asked

pub part_end-h-requires : goal.part_end-h-requires
part_end-h-requires c = search member_asked

pub same_bytes-requires : goal.same_bytes-requires
same_bytes-requires c = search member_asked

pub returns-then-not-same_bytes : goal.returns-then-not-same_bytes
returns-then-not-same_bytes c = search member_steps

pub returns-then-g-b : goal.returns-then-g-b
returns-then-g-b c = search member_steps

pub returns-then-h-d : goal.returns-then-h-d
returns-then-h-d c = search member_steps

pub blanks_end-x-requires : goal.blanks_end-x-requires
blanks_end-x-requires c = search member_asked

pub overflow_add-x : goal.overflow_add-x
overflow_add-x c = search member_asked

pub blanks_end-y-requires : goal.blanks_end-y-requires
blanks_end-y-requires c = search member_asked

pub overflow_add-y : goal.overflow_add-y
overflow_add-y c = search member_asked

pub loop-p-smaller : goal.loop-p-smaller
loop-p-smaller c = search member_asked

pub loop-p-preserved : goal.loop-p-preserved
loop-p-preserved c = search member_steps
