use Rattle.same.proofs.NameSteps.{name_asked, name_steps}
use Rattle.same.proofs.jsx_element_name_eq.Goals as goal

pub same_bytes-requires : goal.same_bytes-requires
same_bytes-requires c = search name_asked

pub returns-then-same_bytes : goal.returns-then-same_bytes
returns-then-same_bytes c = search name_steps

pub part_end-e-requires : goal.part_end-e-requires
part_end-e-requires c = search name_asked

pub part_end-f-requires : goal.part_end-f-requires
part_end-f-requires c = search name_asked

pub same_bytes-requires-2 : goal.same_bytes-requires-2
same_bytes-requires-2 c = search name_asked

pub returns-then-not-same_bytes : goal.returns-then-not-same_bytes
returns-then-not-same_bytes c = search name_steps

pub returns-then-e-b : goal.returns-then-e-b
returns-then-e-b c = search name_steps

pub returns-then-f-d : goal.returns-then-f-d
returns-then-f-d c = search name_steps

pub blanks_end-p-requires : goal.blanks_end-p-requires
blanks_end-p-requires c = search name_asked

pub blanks_end-q-requires : goal.blanks_end-q-requires
blanks_end-q-requires c = search name_asked

pub byte-separator-requires : goal.byte-separator-requires
byte-separator-requires c = search name_asked

pub byte-requires : goal.byte-requires
byte-requires c = search name_asked

pub returns-then-separator-byte : goal.returns-then-separator-byte
returns-then-separator-byte c = search name_steps

pub overflow_add-p : goal.overflow_add-p
overflow_add-p c = search name_asked

pub overflow_add-q : goal.overflow_add-q
overflow_add-q c = search name_asked

pub jsx_namespaced_name_eq-requires : goal.jsx_namespaced_name_eq-requires
jsx_namespaced_name_eq-requires c = search name_asked

pub returns-then-separator-eq-COLON : goal.returns-then-separator-eq-COLON
returns-then-separator-eq-COLON c = search name_steps

pub overflow_add-p-2 : goal.overflow_add-p-2
overflow_add-p-2 c = search name_asked

pub overflow_add-q-2 : goal.overflow_add-q-2
overflow_add-q-2 c = search name_asked

pub jsx_member_expression_eq-requires : goal.jsx_member_expression_eq-requires
jsx_member_expression_eq-requires c = search name_asked

pub returns : goal.returns
returns c = search name_steps
