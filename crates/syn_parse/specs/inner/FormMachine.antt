-- Private: the machine that reads a formula from its items. It holds a frame for each open bracket, with a place for each level of
-- precedence, and takes one item at a time without looking ahead. That it reads what the grammar says is proved of it.
use Rattle.std.specs.Prelude.{ℕ, zero, suc, ◌+◌, max, nat_lt, Bool, true, false, if◌then◌else◌, List, [], ◌∷◌, ◌++◌, Option, None, Some}
use Rattle.std.specs.Option.{option_and_then, option_map}
use Rattle.syn_form.specs.declared.syntax.Mark.{Mark}
use Rattle.syn_form.specs.declared.syntax.Mark.TheVariants as mark
use Rattle.syn_form.specs.declared.syntax.HeadName.TheVariants as head
use Rattle.syn_form.specs.declared.syntax.TermSyntax.{TermSyntax, out-TermSyntax}
use Rattle.syn_form.specs.declared.syntax.TermSyntax.TheOpen.{TermSyntax-F}
use Rattle.syn_form.specs.declared.syntax.Quantifier.{Quantifier}
use Rattle.syn_form.specs.declared.syntax.BinderSyntax.{BinderSyntax}
use Rattle.syn_form.specs.declared.syntax.FormSyntax.{FormSyntax}
use Rattle.syn_form.specs.declared.syntax.FormSyntax.TheVariants as form
use Rattle.syn_form.specs.declared.syntax.FormSyntax.TheViews as view
use Rattle.syn_parse.specs.declared.items.Item.{Item}
use Rattle.syn_parse.specs.declared.items.Item.TheVariants as item
use Rattle.syn_parse.specs.declared.form_frames.Tall.{Tall}
use Rattle.syn_parse.specs.declared.form_frames.Members.{Members}
use Rattle.syn_parse.specs.declared.form_frames.Prefix.{Prefix}
use Rattle.syn_parse.specs.declared.form_frames.Frame.{Frame}
use Rattle.syn_parse.specs.declared.form_reader.FormReader.{FormReader}
use Rattle.syn_parse.specs.Heights.{max_height}
use Rattle.syn_parse.specs.inner.Feeding.{feed}

-- a formula whose highest part has the height n; none where it would be too high
abbrev pub built : FormSyntax → ℕ → Option Tall
built f n = if nat_lt n max_height then Some (record { form = f; height = n + 1 }) else None

abbrev pub not_of : Tall → Option Tall
not_of u = built (view.Not u.form) u.height

abbrev pub implies_of : Tall → Tall → Option Tall
implies_of a b = built (view.Implies a.form b.form) (max a.height b.height)

abbrev pub both_of : Tall → Tall → Option Tall
both_of a b = built (view.BothWays a.form b.form) (max a.height b.height)

abbrev pub quantified_of : Prefix → Tall → Option Tall
quantified_of b u = built (view.Quantified b.quantifier b.binders u.form) u.height

-- the formula under so many `not`s
abbrev pub negated : ℕ → Tall → Option Tall
negated zero u = Some u
negated (suc n) u = option_and_then (negated n) (not_of u)

abbrev pub no_members : Members
no_members = record { forms = []; height = 0 }

abbrev pub with_member : Members → Tall → Members
with_member members u = record { forms = members.forms ++ u.form ∷ []; height = max members.height u.height }

abbrev pub chained : (List FormSyntax → FormSyntax) → List FormSyntax → ℕ → Tall → Option Tall
chained node [] n u = Some u
chained node (x ∷ xs) n u = built (node ((x ∷ xs) ++ u.form ∷ [])) (max n u.height)

-- a chain of `and` with its last member; a formula alone is no chain
abbrev pub chain_and : Members → Tall → Option Tall
chain_and ands u = chained view.And ands.forms ands.height u

-- the same with `or`
abbrev pub chain_or : Members → Tall → Option Tall
chain_or ors u = chained view.Or ors.forms ors.height u

-- a chain of `->`, nested to the right
abbrev pub chain_imp : List Tall → Tall → Option Tall
chain_imp [] u = Some u
chain_imp (x ∷ xs) u = option_and_then (implies_of x) (chain_imp xs u)

abbrev pub sided : Option Tall → Tall → Option Tall
sided None u = Some u
sided (Some a) u = both_of a u

-- the formula under the quantifiers, the first of them outermost
abbrev pub under : List Prefix → Tall → Option Tall
under [] u = Some u
under (b ∷ bs) u = option_and_then (quantified_of b) (under bs u)

abbrev pub or_done : Members → Members → Tall → Option Tall
or_done ands ors u = option_and_then (chain_or ors) (chain_and ands u)

abbrev pub imp_done : Members → Members → List Tall → Tall → Option Tall
imp_done ands ors lefts u = option_and_then (chain_imp lefts) (or_done ands ors u)

abbrev pub sides_done : Members → Members → List Tall → Option Tall → Tall → Option Tall
sides_done ands ors lefts side u = option_and_then (sided side) (imp_done ands ors lefts u)

-- the whole form of a frame, whose last operand is u
abbrev pub form_done : Frame → Tall → Option Tall
form_done f u = option_and_then (under f.prefixes) (sides_done f.ands f.ors f.lefts f.side u)

-- a frame of which nothing was read
abbrev pub fresh : Frame
fresh = record { prefixes = []; nots = 0; ands = no_members; ors = no_members; lefts = []; side = None }

-- an operand is wanted, or, at the start of a form, also a quantifier
abbrev pub wants : Bool → Frame → List Frame → FormReader
wants first f out = record { frame = f; outer = out; first = first; last = None }

-- the operand u is there
abbrev pub has : Frame → List Frame → Tall → FormReader
has f out u = record { frame = f; outer = out; first = false; last = Some u }

abbrev pub calm : Frame → Frame
calm f = record f { nots = 0 }

-- an operand comes; the `not`s before it are put round it
abbrev pub got : Frame → List Frame → Tall → Option FormReader
got f out u = option_map (has (calm f) out) (negated f.nots u)

abbrev pub leaf : FormSyntax → Tall
leaf f = record { form = f; height = 1 }

abbrev pub quantifier_next : Bool → Frame → List Frame → Quantifier → List BinderSyntax → Option FormReader
quantifier_next false f out q binders = None
quantifier_next true f out q binders = Some (wants true (record f { prefixes = f.prefixes ++ record { quantifier = q; binders = binders } ∷ [] }) out)

abbrev pub not_next : Frame → List Frame → FormReader
not_next f out = wants false (record f { nots = f.nots + 1 }) out

abbrev pub open_next : Frame → List Frame → FormReader
open_next f out = wants true fresh (f ∷ out)

abbrev pub atom_layer : TermSyntax-F TermSyntax → Option FormSyntax
atom_layer (TermSyntax-F.Applied (head.Name r) args) = Some (form.Atom r args)
atom_layer _ = None

-- the atom that a term is where a formula is wanted
abbrev pub atom_of : TermSyntax → Option FormSyntax
atom_of t = atom_layer (out-TermSyntax t)

abbrev pub term_next : Frame → List Frame → TermSyntax → Option FormReader
term_next f out t = option_and_then (λ a. got f out (leaf a)) (atom_of t)

-- a mark where an operand is wanted
abbrev pub mark_first : Frame → List Frame → Mark → Option FormReader
mark_first f out mark.True = got f out (leaf form.True)
mark_first f out mark.False = got f out (leaf form.False)
mark_first f out mark.Not = Some (not_next f out)
mark_first f out mark.Open = Some (open_next f out)
mark_first f out _ = None

-- the next item where an operand is wanted
abbrev pub begun : Bool → Frame → List Frame → Item → Option FormReader
begun first f out (item.Term t) = term_next f out t
begun first f out (item.Equal s t) = got f out (leaf (form.Equal s t))
begun first f out (item.Quantifier q binders) = quantifier_next first f out q binders
begun first f out (item.Fixed m) = mark_first f out m

abbrev pub and_next : Frame → List Frame → Tall → FormReader
and_next f out u = wants false (record f { nots = 0; ands = with_member f.ands u }) out

abbrev pub or_next : Frame → List Frame → Tall → Option FormReader
or_next f out u = option_map (λ v. wants false (record f { nots = 0; ands = no_members; ors = with_member f.ors v }) out) (chain_and f.ands u)

abbrev pub arrow_next : Frame → List Frame → Tall → Option FormReader
arrow_next f out u = option_map (λ v. wants false (record f { nots = 0; ands = no_members; ors = no_members; lefts = f.lefts ++ v ∷ [] }) out) (or_done f.ands f.ors u)

-- `<->` stands at most once in a form
abbrev pub both_at : Option Tall → Frame → List Frame → Tall → Option FormReader
both_at None f out u = option_map (λ v. wants false (record fresh { prefixes = f.prefixes; side = Some v }) out) (imp_done f.ands f.ors f.lefts u)
both_at (Some left) f out u = None

abbrev pub both_next : Frame → List Frame → Tall → Option FormReader
both_next f out u = both_at f.side f out u

-- a bracket closes the form of its frame, which is an operand of the frame around it
abbrev pub close_next : Frame → List Frame → Tall → Option FormReader
close_next f [] u = None
close_next f (g ∷ out) u = option_and_then (got g out) (form_done f u)

-- a mark after the operand u
abbrev pub mark_after : Frame → List Frame → Tall → Mark → Option FormReader
mark_after f out u mark.And = Some (and_next f out u)
mark_after f out u mark.Or = or_next f out u
mark_after f out u mark.Arrow = arrow_next f out u
mark_after f out u mark.BothWays = both_next f out u
mark_after f out u mark.Close = close_next f out u
mark_after f out u _ = None

-- the next item after the operand u
abbrev pub went_on : Frame → List Frame → Tall → Item → Option FormReader
went_on f out u (item.Fixed m) = mark_after f out u m
went_on f out u _ = None

abbrev pub step_at : Option Tall → FormReader → Item → Option FormReader
step_at None r i = begun r.first r.frame r.outer i
step_at (Some u) r i = went_on r.frame r.outer u i

-- one item
abbrev pub step : FormReader → Item → Option FormReader
step r i = step_at r.last r i

-- all items in a row
abbrev pub run : List Item → FormReader → Option FormReader
run = feed step

abbrev pub start : FormReader
start = wants true fresh []

abbrev pub finished_at : Option Tall → Frame → List Frame → Option Tall
finished_at (Some u) f [] = form_done f u
finished_at _ f out = None

-- the formula with its height, where all brackets are closed and no operand is missing
abbrev pub finished : FormReader → Option Tall
finished r = finished_at r.last r.frame r.outer

-- the same without its height
abbrev pub ended : FormReader → Option FormSyntax
ended r = option_map (λ v. v.form) (finished r)

-- the formula that the items are
abbrev pub parsed : List Item → Option FormSyntax
parsed is = option_and_then ended (run is start)
