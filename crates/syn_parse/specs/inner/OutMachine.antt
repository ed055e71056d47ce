-- Private: the machine that reads an output from its items. It holds a stack of the choices that are open, and hands the items of a
-- test to the machine of formulas. That it reads what the grammar says is proved of it.
use Rattle.std.specs.Prelude.{ℕ, ◌+◌, max, nat_lt, if◌then◌else◌, List, [], ◌∷◌, Option, None, Some}
use Rattle.std.specs.Option.{option_and_then, option_map}
use Rattle.syn_form.specs.declared.syntax.Mark.{Mark}
use Rattle.syn_form.specs.declared.syntax.Mark.TheVariants as mark
use Rattle.syn_form.specs.declared.syntax.TermSyntax.{TermSyntax}
use Rattle.syn_form.specs.declared.syntax.OutSyntax.{OutSyntax}
use Rattle.syn_form.specs.declared.syntax.OutSyntax.TheVariants as out
use Rattle.syn_form.specs.declared.syntax.OutSyntax.TheViews as out_view
use Rattle.syn_parse.specs.declared.items.Item.{Item}
use Rattle.syn_parse.specs.declared.items.Item.TheVariants as item
use Rattle.syn_parse.specs.declared.form_frames.Tall.{Tall}
use Rattle.syn_parse.specs.declared.form_reader.FormReader.{FormReader}
use Rattle.syn_parse.specs.declared.out_reader.TallOut.{TallOut}
use Rattle.syn_parse.specs.declared.out_reader.Arm.{Arm}
use Rattle.syn_parse.specs.declared.out_reader.Arm.TheVariants as arm
use Rattle.syn_parse.specs.declared.out_reader.OutStage.{OutStage}
use Rattle.syn_parse.specs.declared.out_reader.OutStage.TheVariants as stage
use Rattle.syn_parse.specs.declared.out_reader.OutReader.{OutReader}
use Rattle.syn_parse.specs.inner.FormMachine as tests
use Rattle.syn_parse.specs.Heights.{max_height}
use Rattle.syn_parse.specs.inner.Feeding.{feed}

-- an output whose highest part has the height n; none where it would be too high
abbrev pub built : OutSyntax → ℕ → Option TallOut
built o n = if nat_lt n max_height then Some (record { out = o; height = n + 1 }) else None

abbrev pub choice_of : Tall → TallOut → TallOut → Option TallOut
choice_of test a b = built (out_view.If test.form a.out b.out) (max test.height (max a.height b.height))

abbrev pub given : TermSyntax → TallOut
given t = record { out = out.Give t; height = 1 }

abbrev pub stands : List Arm → OutStage → OutReader
stands arms s = record { arms = arms; stage = s }

-- an output is wanted
abbrev pub wanted : List Arm → OutReader
wanted arms = record { arms = arms; stage = stage.Wanted }

-- a test is being read
abbrev pub testing : List Arm → FormReader → OutReader
testing arms r = record { arms = arms; stage = stage.Test r }

-- the output u is there
abbrev pub here : List Arm → TallOut → OutReader
here arms u = record { arms = arms; stage = stage.Here u }

-- an output comes as the first arm of a choice with this test
abbrev pub came_first : List Arm → Tall → TallOut → OutReader
came_first arms test u = here (arm.Then test ∷ arms) u

-- an output comes: it ends each choice on top that waits for its second arm
abbrev pub came : List Arm → TallOut → Option OutReader
came [] u = Some (here [] u)
came (arm.Then test ∷ arms) u = Some (came_first arms test u)
came (arm.Else test a ∷ arms) u = option_and_then (came arms) (choice_of test a u)

-- a mark where an output is wanted
abbrev pub mark_first : List Arm → Mark → Option OutReader
mark_first arms mark.If = Some (testing arms tests.start)
mark_first arms _ = None

-- the next item where an output is wanted
abbrev pub begun : List Arm → Item → Option OutReader
begun arms (item.Term t) = came arms (given t)
begun arms (item.Fixed m) = mark_first arms m
begun arms _ = None

-- an output is wanted, as the first arm of a choice with this test
abbrev pub with_test : List Arm → Tall → OutReader
with_test arms test = wanted (arm.Then test ∷ arms)

-- `then` ends the test
abbrev pub then_next : List Arm → FormReader → Option OutReader
then_next arms r = option_map (with_test arms) (tests.finished r)

abbrev pub test_next : List Arm → FormReader → Item → Option OutReader
test_next arms r i = option_map (testing arms) (tests.step r i)

-- a mark inside a test
abbrev pub test_mark : List Arm → FormReader → Mark → Option OutReader
test_mark arms r mark.Then = then_next arms r
test_mark arms r m = test_next arms r (item.Fixed m)

-- the next item inside a test
abbrev pub tested : List Arm → FormReader → Item → Option OutReader
tested arms r (item.Fixed m) = test_mark arms r m
tested arms r i = test_next arms r i

-- `else` after the first arm of a choice
abbrev pub else_next : List Arm → TallOut → Option OutReader
else_next (arm.Then test ∷ arms) u = Some (wanted (arm.Else test u ∷ arms))
else_next _ u = None

-- a mark after the output u
abbrev pub mark_after : List Arm → TallOut → Mark → Option OutReader
mark_after arms u mark.Else = else_next arms u
mark_after arms u _ = None

-- the next item after the output u
abbrev pub went_on : List Arm → TallOut → Item → Option OutReader
went_on arms u (item.Fixed m) = mark_after arms u m
went_on arms u _ = None

abbrev pub step_at : OutStage → List Arm → Item → Option OutReader
step_at stage.Wanted arms i = begun arms i
step_at (stage.Test r) arms i = tested arms r i
step_at (stage.Here u) arms i = went_on arms u i

-- one item
abbrev pub step : OutReader → Item → Option OutReader
step r i = step_at r.stage r.arms i

-- all items in a row
abbrev pub run : List Item → OutReader → Option OutReader
run = feed step

abbrev pub start : OutReader
start = wanted []

-- the output u with no choice open
abbrev pub whole_with : List Arm → TallOut → Option OutSyntax
whole_with [] u = Some u.out
whole_with (a ∷ arms) u = None

abbrev pub ended_at : OutStage → List Arm → Option OutSyntax
ended_at (stage.Here u) arms = whole_with arms u
ended_at _ arms = None

-- the output, where it is there and no choice is open
abbrev pub ended : OutReader → Option OutSyntax
ended r = ended_at r.stage r.arms

-- the output that the items are
abbrev pub parsed : List Item → Option OutSyntax
parsed is = option_and_then ended (run is start)
