-- Private: the machine that reads a value, from the last byte to the first.
use Rattle.std.specs.Prelude.{◌≡◌, ℕ, ◌+◌, ◌-◌, Bool, true, false, not, cond, ◌&&◌, nat_eq, nat_lt, List, [], ◌∷◌, Option, None, Some, Result, Ok, Err, decimal, drop, take}
use Rattle.std.specs.Option.{option_and_then, option_map}
use Rattle.std.specs.Char.{is_ascii_digit}
use Rattle.std.specs.Str.{byte, bytes_eq}
use Rattle.std.specs.Str.Parse.{digits_value}
use Rattle.syn_term.specs.Tokens.{is_blank}
use Rattle.syn_term.specs.Symbols.{SymbolTable}
use Rattle.syn_term.specs.declared.sorts.Sort.{Sort}
use Rattle.syn_value.specs.Values.{is_of_sort}
use Rattle.syn_value.specs.declared.errors.ValueError.{ValueError}
use Rattle.syn_value.specs.declared.errors.ValueError.TheVariants as error
use Rattle.syn_value.specs.declared.reader.Kind.{Kind}
use Rattle.syn_value.specs.declared.reader.Kind.TheVariants as kind
use Rattle.syn_value.specs.declared.reader.Frame.{Frame}
use Rattle.syn_value.specs.declared.reader.Reader.{Reader}
use Rattle.syn_value.specs.declared.tree.ValueTree.{ValueTree}
use Rattle.syn_value.specs.declared.tree.ValueTree.TheVariants as tree
use Rattle.syn_value.specs.declared.tree.ValueTree.TheViews as view

-- the call leaves the state that the step leads to; want of memory is free
abbrev pub Leads : {A X : Type 0} → Result A ValueError → X → Option X → Type 0
Leads (Ok a) state step = Some state ≡ step
Leads (Err error.BadValue) state step = None ≡ step
Leads (Err error.NoMemory) state step = Unit {0}

-- the call answers the value of the step
abbrev pub Makes : {X : Type 0} → Result X ValueError → Option X → Type 0
Makes (Ok x) step = Some x ≡ step
Makes (Err error.BadValue) step = None ≡ step
Makes (Err error.NoMemory) step = Unit {0}

abbrev pub is_nil : {X : Type 0} → List X → Bool
is_nil [] = true
is_nil (x ∷ xs) = false

abbrev pub same_kind : Kind → Kind → Bool
same_kind kind.Whole kind.Whole = true
same_kind kind.List kind.List = true
same_kind kind.Tuple kind.Tuple = true
same_kind _ _ = false

-- nothing was read
abbrev pub fresh : Kind → Frame
fresh k = record { kind = k; items = []; comma = false }

abbrev pub start : Reader
start = record { top = fresh kind.Whole; outer = []; count = 0 }

-- a value may stand before a comma, or where no items are and no comma
abbrev pub may_stand : List ValueTree → Bool → Bool
may_stand [] comma = not comma
may_stand (v ∷ vs) comma = comma

abbrev pub with_item : ValueTree → Frame → Frame
with_item v f = record { kind = f.kind; items = v ∷ f.items; comma = false }

-- a value before the items
abbrev pub put : ValueTree → Frame → Option Frame
put v f = cond (may_stand f.items f.comma) (Some (with_item v f)) None

-- the list or tuple that the brackets are round
abbrev pub value_at : Kind → List ValueTree → ValueTree
value_at kind.Tuple vs = view.Tuple vs
value_at _ vs = view.List vs

abbrev pub value_of : Frame → ValueTree
value_of f = value_at f.kind f.items

abbrev pub with_top : Reader → Frame → Reader
with_top r f = record { top = f; outer = r.outer; count = r.count }

-- one value more, at most 10,001
abbrev pub begin : Reader → Option Reader
begin r = cond (nat_lt r.count 10001) (Some (record { top = r.top; outer = r.outer; count = r.count + 1 })) None

abbrev pub put_top : ValueTree → Reader → Option Reader
put_top v r = option_map (with_top r) (put v r.top)

abbrev pub number_where : Bool → ℕ → Option ℕ
number_where true n = Some n
number_where false n = None

-- the number that the digits are, up to 1,000,000
abbrev pub number_in : List ℕ → Option ℕ
number_in ds = number_where (bytes_eq ds (decimal (digits_value 10 ds)) && not (nat_lt 1000000 (digits_value 10 ds))) (digits_value 10 ds)

abbrev pub put_number : Reader → ℕ → Option Reader
put_number r n = option_and_then (put_top (tree.Num n)) (begin r)

-- the digits before what was read, where there are any
abbrev pub flush : List ℕ → Reader → Option Reader
flush [] r = Some r
flush (d ∷ ds) r = option_and_then (put_number r) (number_in (d ∷ ds))

abbrev pub entered : Kind → Reader → Reader
entered k r = record { top = fresh k; outer = r.top ∷ r.outer; count = r.count }

-- a bracket that closes
abbrev pub enter : Kind → Reader → Option Reader
enter k r = option_map (entered k) (begin r)

abbrev pub made : List Frame → ℕ → Frame → Reader
made outer n f = record { top = f; outer = outer; count = n }

abbrev pub left : List Frame → ℕ → ValueTree → Option Reader
left [] n v = None
left (f ∷ fs) n v = option_map (made fs n) (put v f)

-- the bracket that opens the innermost pair
abbrev pub leave : Kind → Reader → Option Reader
leave k r = cond r.top.comma None (cond (same_kind r.top.kind k) (left r.outer r.count (value_of r.top)) None)

abbrev pub with_comma : Reader → Reader
with_comma r = with_top r (record { kind = r.top.kind; items = r.top.items; comma = true })

abbrev pub comma : Reader → Option Reader
comma r = cond r.top.comma None (cond (is_nil r.top.items) None (cond (same_kind r.top.kind kind.Whole) None (Some (with_comma r))))

-- a blank stands in brackets alone
abbrev pub blank : Reader → Option Reader
blank r = cond (same_kind r.top.kind kind.Whole) None (Some r)

-- a byte that is no digit
abbrev pub sign : ℕ → Reader → Option Reader
sign b r =
    cond (nat_eq b (byte "]")) (enter kind.List r)
    (cond (nat_eq b (byte ")")) (enter kind.Tuple r)
    (cond (nat_eq b (byte "[")) (leave kind.List r)
    (cond (nat_eq b (byte "(")) (leave kind.Tuple r)
    (cond (nat_eq b (byte ",")) (comma r)
    (cond (is_blank b) (blank r) None)))))

-- the one value that was read
abbrev pub only_in : Kind → Bool → List ValueTree → Option ValueTree
only_in kind.Whole false (v ∷ []) = Some v
only_in _ _ _ = None

abbrev pub only : Frame → Option ValueTree
only f = only_in f.kind f.comma f.items

abbrev pub whole : Reader → Option ValueTree
whole r = cond (is_nil r.outer) (only r.top) None

-- what was read, and the digits of a number that may begin further to the left
pub record State : Type 0 where
  pub reader : Reader
  pub digits : List ℕ

-- the digits are the bytes from one place up to another
abbrev pub state_at : Reader → List ℕ → ℕ → ℕ → State
state_at r bytes from to = record { reader = r; digits = take (to - from) (drop from bytes) }

-- the call answers where the digits end that begin at the place
abbrev pub Stands : Result ℕ ValueError → Reader → List ℕ → ℕ → Option State → Type 0
Stands (Ok end) r bytes at step = Some (state_at r bytes at end) ≡ step
Stands (Err error.BadValue) r bytes at step = None ≡ step
Stands (Err error.NoMemory) r bytes at step = Unit {0}

abbrev pub flushed : State → Option Reader
flushed s = flush s.digits s.reader

abbrev pub without_digits : Reader → State
without_digits r = record { reader = r; digits = [] }

abbrev pub step : ℕ → State → Option State
step b s = cond (is_ascii_digit b) (Some (record { reader = s.reader; digits = b ∷ s.digits })) (option_map without_digits (option_and_then (sign b) (flushed s)))

-- the bytes from the last to the first
abbrev pub read : List ℕ → Option State
read [] = Some (without_digits start)
read (b ∷ bs) = option_and_then (step b) (read bs)

abbrev pub read_all : List ℕ → Option Reader
read_all bytes = option_and_then flushed (read bytes)

-- the value that the bytes are, of whatever sort
abbrev pub value_in : List ℕ → Option ValueTree
value_in bytes = option_and_then whole (read_all bytes)

-- the value, where it is of the sort
abbrev pub of_sort : SymbolTable → Sort → ValueTree → Option ValueTree
of_sort table sort v = cond (is_of_sort table v sort) (Some v) None
