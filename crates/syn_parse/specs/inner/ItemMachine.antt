-- Private: the machine that puts terms and equalities together, one phrase at a time.
use Rattle.std.specs.Prelude.{◌≡◌, ℕ, ◌+◌, ◌-◌, List, [], ◌∷◌, ◌++◌, Option, None, Some, if◌then◌else◌, nat_lt}
use Rattle.std.specs.Option.{option_and_then, option_map}
use Rattle.syn_form.specs.declared.syntax.Mark.{Mark}
use Rattle.syn_form.specs.declared.syntax.Mark.TheVariants as mark
use Rattle.syn_form.specs.declared.syntax.Lexeme.{Lexeme}
use Rattle.syn_form.specs.declared.syntax.Lexeme.TheVariants as lexeme
use Rattle.syn_form.specs.declared.syntax.HeadName.{HeadName}
use Rattle.syn_form.specs.declared.syntax.HeadName.TheVariants as head
use Rattle.syn_form.specs.declared.syntax.Quantifier.{Quantifier}
use Rattle.syn_form.specs.declared.syntax.BinderSyntax.{BinderSyntax}
use Rattle.syn_form.specs.declared.syntax.TermSyntax.{TermSyntax, out-TermSyntax}
use Rattle.syn_form.specs.declared.syntax.TermSyntax.TheOpen.{TermSyntax-F}
use Rattle.syn_form.specs.declared.syntax.TermSyntax.TheVariants as term
use Rattle.syn_form.specs.declared.syntax.TermSyntax.TheViews as view
use Rattle.syn_parse.specs.declared.phrase_reader.Phrase.{Phrase}
use Rattle.syn_parse.specs.declared.phrase_reader.Phrase.TheVariants as phrase
use Rattle.syn_parse.specs.declared.items.Item.{Item}
use Rattle.syn_parse.specs.declared.items.Item.TheVariants as item
use Rattle.syn_parse.specs.declared.item_reader.Call.{Call}
use Rattle.syn_parse.specs.declared.item_reader.ItemReader.{ItemReader}

abbrev pub reads : List Item → Option TermSyntax → List Call → ℕ → Option TermSyntax → ItemReader
reads items left calls n last = record { items = items; left = left; calls = calls; count = n; last = last }

abbrev pub start : ItemReader
start = reads [] None [] 0 None

abbrev pub placed_at : Option TermSyntax → ItemReader → TermSyntax → Option ItemReader
placed_at None r t = Some (reads r.items r.left r.calls r.count (Some t))
placed_at (Some u) r t = None

-- a term comes, where none is there yet
abbrev pub placed : ItemReader → TermSyntax → Option ItemReader
placed r t = placed_at r.last r t

-- the item that a term ends: itself, or an equality
abbrev pub item_of : Option TermSyntax → TermSyntax → Item
item_of None t = item.Term t
item_of (Some s) t = item.Equal s t

-- where no term is, no left side of an equality may stand
abbrev pub unless_left : Option TermSyntax → List Item → Option (List Item)
unless_left None items = Some items
unless_left (Some s) items = None

-- the items with the one that the last term ends
abbrev pub flushed : List Item → Option TermSyntax → Option TermSyntax → Option (List Item)
flushed items left None = unless_left left items
flushed items left (Some t) = Some (items ++ item_of left t ∷ [])

abbrev pub emptied : ItemReader → List Item → ItemReader
emptied r items = reads items None r.calls r.count None

abbrev pub flush : ItemReader → Option ItemReader
flush r = option_map (emptied r) (flushed r.items r.left r.last)

abbrev pub with_next : Item → ItemReader → ItemReader
with_next i r = record r { items = r.items ++ i ∷ [] }

-- an item that ends the term before it
abbrev pub with_item : ItemReader → Item → Option ItemReader
with_item r i = option_map (with_next i) (flush r)

abbrev pub head_layer : TermSyntax-F TermSyntax → Option HeadName
head_layer (TermSyntax-F.Alone h) = Some h
head_layer _ = None

-- the head that a term by itself is
abbrev pub head_of : TermSyntax → Option HeadName
head_of t = head_layer (out-TermSyntax t)

abbrev pub call_of : HeadName → Call
call_of h = record { head = h; args = [] }

abbrev pub with_call : ItemReader → HeadName → ItemReader
with_call r h = record r { calls = call_of h ∷ r.calls; count = r.count + 1 }

-- a bracket opens behind a term, which is a head then; at most 1,263 calls are open at once
abbrev pub opened : ItemReader → TermSyntax → Option ItemReader
opened r t = if nat_lt r.count 1263 then option_map (with_call r) (head_of t) else None

abbrev pub open_at : Option TermSyntax → ItemReader → Option ItemReader
open_at (Some t) r = opened (reads r.items r.left r.calls r.count None) t
open_at None r = with_item r (item.Fixed mark.Open)

abbrev pub open_outside : ItemReader → Option ItemReader
open_outside r = open_at r.last r

abbrev pub equals_at : Option TermSyntax → Option TermSyntax → ItemReader → Option ItemReader
equals_at None (Some s) r = Some (reads r.items (Some s) r.calls r.count None)
equals_at _ _ r = None

abbrev pub equals_outside : ItemReader → Option ItemReader
equals_outside r = equals_at r.left r.last r

-- a mark where no call is open
abbrev pub outside : ItemReader → Mark → Option ItemReader
outside r mark.Open = open_outside r
outside r mark.Equals = equals_outside r
outside r m = with_item r (item.Fixed m)

abbrev pub with_arg : Call → TermSyntax → Call
with_arg c t = record { head = c.head; args = c.args ++ t ∷ [] }

abbrev pub closed_call : Call → TermSyntax → TermSyntax
closed_call c t = view.Applied c.head (c.args ++ t ∷ [])

-- a mark behind the argument t of the innermost open call c; the reader holds neither
abbrev pub inside : ItemReader → Call → TermSyntax → Mark → Option ItemReader
inside r c t mark.Open = opened (record r { calls = c ∷ r.calls }) t
inside r c t mark.Comma = Some (record r { calls = with_arg c t ∷ r.calls })
inside r c t mark.Close = Some (record r { count = r.count - 1; last = Some (closed_call c t) })
inside r c t _ = None

abbrev pub inside_at : Option TermSyntax → ItemReader → Call → List Call → Mark → Option ItemReader
inside_at None r c calls m = None
inside_at (Some t) r c calls m = inside (reads r.items r.left calls r.count None) c t m

abbrev pub mark_at : List Call → ItemReader → Mark → Option ItemReader
mark_at [] r m = outside r m
mark_at (c ∷ calls) r m = inside_at r.last r c calls m

abbrev pub mark_next : ItemReader → Mark → Option ItemReader
mark_next r m = mark_at r.calls r m

abbrev pub word_next : ItemReader → Lexeme → Option ItemReader
word_next r (lexeme.Number k) = placed r (term.Number k)
word_next r (lexeme.RowVar k s) = placed r (term.RowVar k s)
word_next r (lexeme.Name x) = placed r (term.Alone (head.Name x))
word_next r (lexeme.Skolem x) = placed r (term.Alone (head.Skolem x))
word_next r (lexeme.Fixed m) = mark_next r m

abbrev pub quantifier_at : List Call → ItemReader → Quantifier → List BinderSyntax → Option ItemReader
quantifier_at [] r q binders = with_item r (item.Quantifier q binders)
quantifier_at (c ∷ calls) r q binders = None

-- a quantifier, which stands in no call
abbrev pub quantifier_next : ItemReader → Quantifier → List BinderSyntax → Option ItemReader
quantifier_next r q binders = quantifier_at r.calls r q binders

-- one phrase
abbrev pub step : ItemReader → Phrase → Option ItemReader
step r (phrase.Word l) = word_next r l
step r (phrase.Quantifier q binders) = quantifier_next r q binders

-- nothing waits in the reader, and the mark is an item by itself
abbrev pub IsLone : ItemReader → Mark → Type 0
IsLone r m = (r ≡ reads [] None [] r.count None) × (mark_next r m ≡ Some (reads (item.Fixed m ∷ []) None [] r.count None))

abbrev pub run : List Phrase → ItemReader → Option ItemReader
run [] r = Some r
run (p ∷ ps) r = option_and_then (run ps) (step r p)

abbrev pub finished_at : List Call → ItemReader → Option ItemReader
finished_at [] r = flush r
finished_at (c ∷ calls) r = None

-- the end, where no call is open
abbrev pub finished : ItemReader → Option ItemReader
finished r = finished_at r.calls r

abbrev pub ended_at : List Call → ItemReader → Option (List Item)
ended_at calls r = option_map (λ s. s.items) (finished_at calls r)

abbrev pub ended : ItemReader → Option (List Item)
ended r = ended_at r.calls r

-- the items of a text
abbrev pub items_of : List Phrase → Option (List Item)
items_of ps = option_and_then ended (run ps start)
