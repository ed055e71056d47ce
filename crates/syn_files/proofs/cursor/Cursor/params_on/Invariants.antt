use Rattle.std.proofs.Common.{◌≡◌, ◌++◌, length, map}
use Rattle.std.specs.Option.{option_map}
use Rattle.syn_model.specs.Heads.{given_param}
use Rattle.syn_files.specs.inner.Firsts.{got}
use Rattle.syn_files.specs.inner.Params.{a_name, params_on}
use Rattle.syn_files.proofs.cursor.Cursor.params_on.Given as goal

-- what is still read goes behind what was read
abbrev pub invariant-loop-name : goal.invariant-loop-name
invariant-loop-name l = option_map (λ g. got (map given_param l.params ++ g.value) g.left) (params_on l.syms a_name l.self.left) ≡ params_on l.fn.syms a_name l.fn.self.left

abbrev pub decreases-loop-name : goal.decreases-loop-name
decreases-loop-name l = length l.self.left
