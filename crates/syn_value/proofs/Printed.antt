-- The text of a value by its cases, and of values with commas between.
use Rattle.std.proofs.Common.{◌≡◌, ℕ, Bool, true, false, List, [], ◌∷◌, ◌++◌, Result, Ok, Err, OnOk, codes, decimal, map, refl, sym, ap, ◌∙◌, append_assoc}
use Rattle.std.specs.List.{concat}
use mathlib.Core.List.{append-nil}
use Rattle.syn_value.specs.declared.tree.ValueTree.{ValueTree}
use Rattle.syn_value.specs.declared.tree.ValueTree.TheVariants as tree
use Rattle.syn_value.specs.declared.tree.ValueTree.TheViews as view
use Rattle.syn_value.specs.declared.nodes.Node.{Node}
use Rattle.syn_value.specs.declared.nodes.Seq.{Seq}
use Rattle.syn_value.specs.declared.nodes.Node.TheVariants as node
use Rattle.syn_value.specs.Texts.{separated, tokens_step, value_text, value_tokens}
use Rattle.syn_value.specs.inner.Nodes.{items, meaning}
use Rattle.syn_value.specs.inner.Printing.{comma_text, items_text, next_items}
use Rattle.syn_value.proofs.Meanings.{meaning-Num, meaning-List, meaning-Tuple}
use Rattle.syn_value.proofs.Trees.{fold-Num, fold-List, fold-Tuple}

pub tokens-Num : (n : ℕ) → value_tokens (tree.Num n) ≡ decimal n ∷ []
tokens-Num n = fold-Num tokens_step n

pub tokens-List : (xs : List ValueTree) → value_tokens (view.List xs) ≡ codes "[" ∷ separated (map value_tokens xs) ++ codes "]" ∷ []
tokens-List xs = fold-List tokens_step xs

pub tokens-Tuple : (xs : List ValueTree) → value_tokens (view.Tuple xs) ≡ codes "(" ∷ separated (map value_tokens xs) ++ codes ")" ∷ []
tokens-Tuple xs = fold-Tuple tokens_step xs

concat-append : (xss yss : List (List ℕ)) → concat (xss ++ yss) ≡ concat xss ++ concat yss
concat-append [] yss = refl
concat-append (xs ∷ xss) yss = ap (λ (z : List ℕ). xs ++ z) (concat-append xss yss) ∙ sym (append_assoc xs (concat xss) (concat yss))

text-Num : (n : ℕ) → value_text (tree.Num n) ≡ decimal n
text-Num n = ap concat (tokens-Num n) ∙ append-nil (decimal n)

text-List : (xs : List ValueTree) → value_text (view.List xs) ≡ codes "[" ++ (items_text xs ++ codes "]")
text-List xs = ap concat (tokens-List xs) ∙ ap (λ (z : List ℕ). codes "[" ++ z) (concat-append (separated (map value_tokens xs)) (codes "]" ∷ []))

text-Tuple : (xs : List ValueTree) → value_text (view.Tuple xs) ≡ codes "(" ++ (items_text xs ++ codes ")")
text-Tuple xs = ap concat (tokens-Tuple xs) ∙ ap (λ (z : List ℕ). codes "(" ++ z) (concat-append (separated (map value_tokens xs)) (codes ")" ∷ []))

-- the items behind the first
next_text : (v : ValueTree) (vs : List ValueTree) → items_text (v ∷ vs) ≡ value_text v ++ next_items true vs
next_text v [] = sym (append-nil (value_text v))
next_text v (w ∷ ws) = concat-append (value_tokens v) (codes "," ∷ separated (map value_tokens (w ∷ ws))) ∙ ap (λ (z : List ℕ). value_text v ++ (codes "," ++ z)) (next_text w ws)

-- all items
pub all_text : (vs : List ValueTree) → next_items false vs ≡ items_text vs
all_text [] = refl
all_text (v ∷ vs) = sym (next_text v vs)

pub number_put : (a : Node) (n : ℕ) (old new : List ℕ) → a ≡ node.Num n → new ≡ old ++ decimal n → new ≡ old ++ value_text (meaning a)
number_put a n old new is put = put ∙ ap (λ (z : List ℕ). old ++ z) (sym (ap value_text (ap meaning is ∙ meaning-Num n) ∙ text-Num n))

three : (a b c old first second new : List ℕ) → first ≡ old ++ a → second ≡ first ++ b → new ≡ second ++ c → new ≡ old ++ (a ++ (b ++ c))
three a b c old first second new put_a put_b put_c =
    put_c ∙ (ap (λ (z : List ℕ). z ++ c) (put_b ∙ ap (λ (z : List ℕ). z ++ b) put_a) ∙ (append_assoc (old ++ a) b c ∙ append_assoc old a (b ++ c)))

pub list_put : (a : Node) (s : Seq) (old new : List ℕ) → a ≡ node.List s → new ≡ old ++ (codes "[" ++ (items_text (items s) ++ codes "]")) → new ≡ old ++ value_text (meaning a)
list_put a s old new is put = put ∙ ap (λ (z : List ℕ). old ++ z) (sym (ap value_text (ap meaning is ∙ meaning-List s) ∙ text-List (items s)))

pub tuple_put : (a : Node) (s : Seq) (old new : List ℕ) → a ≡ node.Tuple s → new ≡ old ++ (codes "(" ++ (items_text (items s) ++ codes ")")) → new ≡ old ++ value_text (meaning a)
tuple_put a s old new is put = put ∙ ap (λ (z : List ℕ). old ++ z) (sym (ap value_text (ap meaning is ∙ meaning-Tuple s) ∙ text-Tuple (items s)))

-- one item more
pub item_put : (left : List ValueTree) (v : ValueTree) (vs : List ValueTree) (comma : Bool) (before mid new whole : List ℕ) → left ≡ v ∷ vs → before ++ next_items comma left ≡ whole → mid ≡ before ++ comma_text comma → new ≡ mid ++ value_text v → new ++ next_items true vs ≡ whole
item_put left v vs comma before mid new whole is kept put_comma put_item =
    ap (λ (z : List ℕ). z ++ next_items true vs) (put_item ∙ ap (λ (z : List ℕ). z ++ value_text v) put_comma)
    ∙ (append_assoc (before ++ comma_text comma) (value_text v) (next_items true vs) ∙ (append_assoc before (comma_text comma) (value_text v ++ next_items true vs) ∙ (ap (λ (z : List ValueTree). before ++ next_items comma z) (sym is) ∙ kept)))

-- all items were put, and what stands round them
pub items_put : (vs : List ValueTree) (comma : Bool) (rest : List ValueTree) (left right old first before new : List ℕ) → rest ≡ [] → first ≡ old ++ left → before ++ next_items comma rest ≡ first ++ next_items false vs → new ≡ before ++ right → new ≡ old ++ (left ++ (items_text vs ++ right))
items_put vs comma rest left right old first before new none put_left kept =
    let all : before ≡ first ++ items_text vs = sym (append-nil before) ∙ (ap (λ (z : List ValueTree). before ++ next_items comma z) (sym none) ∙ (kept ∙ ap (λ (z : List ℕ). first ++ z) (all_text vs))) in
    three left (items_text vs) right old first before new put_left all

-- what follows where a call went well
pub on_ok : {E : Type 0} (r : Result (Unit {0}) E) (P Q : Type 0) → (P → Q) → OnOk r P → OnOk r Q
on_ok (Ok u) P Q f h = f h
on_ok (Err e) P Q f h = h
