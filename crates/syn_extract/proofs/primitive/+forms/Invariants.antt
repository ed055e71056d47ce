use Rattle.std.proofs.Common.{◌+◌, ◌*◌, All, take}
use Rattle.syn_model.specs.Programs.{IsPrimitiveForm}
use Rattle.syn_extract.proofs.primitive.+forms.Given as goal

-- a tree is larger than its parts, and the parts come before each of them
abbrev pub decreases-is_primitive_form : goal.decreases-is_primitive_form
decreases-is_primitive_form l = 2 * goal.size-is_primitive_form l

abbrev pub decreases-are_primitive_forms : goal.decreases-are_primitive_forms
decreases-are_primitive_forms l = 2 * goal.size-are_primitive_forms l + 1

abbrev pub invariant-are_primitive_forms-loop-f : goal.invariant-are_primitive_forms-loop-f
invariant-are_primitive_forms-loop-f l = All (IsPrimitiveForm l.spec) (take l.f-index l.all)
