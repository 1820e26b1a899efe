use Rattle.same.proofs.NamespacedSteps.{namespaced_asked, namespaced_steps}
use Rattle.same.proofs.jsx_namespaced_name_eq.Goals as goal

pub blanks_end-requires : goal.blanks_end-requires
blanks_end-requires c = search namespaced_asked

pub blanks_end-requires-2 : goal.blanks_end-requires-2
blanks_end-requires-2 c = search namespaced_asked

pub same_bytes-requires : goal.same_bytes-requires
same_bytes-requires c = search namespaced_asked

pub returns : goal.returns
returns c = search namespaced_steps
