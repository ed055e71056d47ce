-- What the machine reads has the tokens of what it stands for: each step keeps that what was read is written so.
use Rattle.std.proofs.Common.{◌≡◌, ℕ, Bool, true, false, IsTrue, List, [], ◌∷◌, ◌++◌, codes, map, refl, ap, append_assoc}
use Rattle.std.proofs.lemmas.List.Elements.{All-cons, All-nil}
use Rattle.syn_term.specs.Tokens.{is_blank}
use Rattle.syn_value.specs.declared.reader.Kind.{Kind}
use Rattle.syn_value.specs.declared.reader.Kind.TheVariants as kind
use Rattle.syn_value.specs.declared.reader.Frame.{Frame}
use Rattle.syn_value.specs.declared.reader.Reader.{Reader}
use Rattle.syn_value.specs.declared.tree.ValueTree.{ValueTree}
use Rattle.syn_value.specs.Texts.{Follows, Spells, separated, value_tokens}
use Rattle.syn_value.specs.inner.Machine.{may_stand, value_at}
use Rattle.syn_value.proofs.Printed.{tokens-List, tokens-Tuple}

-- the tokens of what closes a pair of brackets, and of a comma that was read
abbrev pub closing : Kind → List (List ℕ)
closing kind.Whole = []
closing kind.List = codes "]" ∷ []
closing kind.Tuple = codes ")" ∷ []

abbrev pub opening : Kind → List ℕ
opening kind.Tuple = codes "("
opening _ = codes "["

abbrev pub comma_tokens : Bool → List (List ℕ)
comma_tokens true = codes "," ∷ []
comma_tokens false = []

abbrev pub tokens_of : List ValueTree → List (List ℕ)
tokens_of vs = separated (map value_tokens vs)

-- the tokens of what was read of a pair of brackets, and of all that was read
abbrev pub parts_tokens : Bool → List ValueTree → Kind → List (List ℕ)
parts_tokens comma vs k = comma_tokens comma ++ (tokens_of vs ++ closing k)

abbrev pub frame_tokens : Frame → List (List ℕ)
frame_tokens f = parts_tokens f.comma f.items f.kind

abbrev pub frames_tokens : List Frame → List (List ℕ)
frames_tokens [] = []
frames_tokens (f ∷ fs) = frame_tokens f ++ frames_tokens fs

abbrev pub reader_tokens : Reader → List (List ℕ)
reader_tokens r = frame_tokens r.top ++ frames_tokens r.outer

-- a value before the items
pub item_tokens : (v : ValueTree) (vs : List ValueTree) (comma : Bool) (k : Kind) → may_stand vs comma ≡ true → parts_tokens false (v ∷ vs) k ≡ value_tokens v ++ parts_tokens comma vs k
item_tokens v [] false k e = refl
item_tokens v [] true k e = absurd (cc)
item_tokens v (w ∷ ws) true k e = append_assoc (value_tokens v) (codes "," ∷ tokens_of (w ∷ ws)) (closing k)
item_tokens v (w ∷ ws) false k e = absurd (cc)

-- the tokens of the value that a pair of brackets is
pub whole_tokens : (vs : List ValueTree) (k : Kind) → (k ≡ kind.Whole → ⊥) → value_tokens (value_at k vs) ≡ opening k ∷ (tokens_of vs ++ closing k)
whole_tokens vs kind.Whole inner = absurd (inner refl)
whole_tokens vs kind.List inner = tokens-List vs
whole_tokens vs kind.Tuple inner = tokens-Tuple vs

-- what follows may have a blank more before it
pub blank_before : (tokens : List (List ℕ)) (bytes : List ℕ) (b : ℕ) → (tokens ≡ [] → ⊥) → IsTrue (is_blank b) → Follows tokens bytes → Follows tokens (b ∷ bytes)
blank_before [] bytes b some is h = absurd (some refl)
blank_before (token ∷ tokens) bytes b some is h = (b ∷ h.0, h.1, All-cons (λ (c : ℕ). IsTrue (is_blank c)) b h.0 is h.2, ap (λ (z : List ℕ). b ∷ z) h.3, h.4)

pub spelled_follows : (tokens : List (List ℕ)) (bytes : List ℕ) → Spells tokens bytes → Follows tokens bytes
spelled_follows [] bytes h = h
spelled_follows (token ∷ tokens) bytes h = ([], h.0, All-nil (λ (c : ℕ). IsTrue (is_blank c)), h.1, h.2)
