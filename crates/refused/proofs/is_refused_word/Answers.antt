use Rattle.refused.proofs.RefusedSteps.{refused_steps}
use mathlib.Core.Path.{refl}
use native.Mathlib.Omega.{arith}
use Rattle.jsx.specs.Name.{same}
use Rattle.jsx.specs.Word.{among, cut, on_first, refused_word, reserved, spared, strict, words}
use Rattle.lex.specs.Contract.{bytes_from}
use Rattle.refused.specs.WordList.{cells, covered, each, good}
use Rattle.refused.proofs.is_refused_word.Goals as goal

pub is_listed-requires : goal.is_listed-requires
unfolding good covered each cells bytes_from same cut on_first words among reserved spared strict refused_word
is_listed-requires c = (refl, omega arith, omega arith, omega arith)

pub is_listed-requires-in-3 : goal.is_listed-requires-in-3
unfolding good covered each cells bytes_from same cut on_first words among reserved spared strict refused_word
is_listed-requires-in-3 c = (refl, omega arith, omega arith, omega arith)

pub is_listed-requires-in-4 : goal.is_listed-requires-in-4
unfolding good covered each cells bytes_from same cut on_first words among reserved spared strict refused_word
is_listed-requires-in-4 c = (refl, omega arith, omega arith, omega arith)

pub is_listed-requires-in-5 : goal.is_listed-requires-in-5
unfolding good covered each cells bytes_from same cut on_first words among reserved spared strict refused_word
is_listed-requires-in-5 c = (refl, omega arith, omega arith, omega arith)

pub is_listed-requires-in-6 : goal.is_listed-requires-in-6
unfolding good covered each cells bytes_from same cut on_first words among reserved spared strict refused_word
is_listed-requires-in-6 c = (refl, omega arith, omega arith, omega arith)

pub is_listed-requires-in-7 : goal.is_listed-requires-in-7
unfolding good covered each cells bytes_from same cut on_first words among reserved spared strict refused_word
is_listed-requires-in-7 c = (refl, omega arith, omega arith, omega arith)

pub is_listed-requires-in-8 : goal.is_listed-requires-in-8
unfolding good covered each cells bytes_from same cut on_first words among reserved spared strict refused_word
is_listed-requires-in-8 c = (refl, omega arith, omega arith, omega arith)

pub is_listed-requires-in-9 : goal.is_listed-requires-in-9
unfolding good covered each cells bytes_from same cut on_first words among reserved spared strict refused_word
is_listed-requires-in-9 c = (refl, omega arith, omega arith, omega arith)

pub is_listed-requires-in-10 : goal.is_listed-requires-in-10
unfolding good covered each cells bytes_from same cut on_first words among reserved spared strict refused_word
is_listed-requires-in-10 c = (refl, omega arith, omega arith, omega arith)

pub returns-in_default : goal.returns-in_default
returns-in_default c = search refused_steps
