-- Two kept values are one where their parts are.
use Rattle.std.proofs.Common.{◌≡◌, ◌↔◌, IsTrue, Bool, sym, ap, ◌∙◌}
use Rattle.syn_value.specs.declared.tree.ValueTree.TheViews as view
use Rattle.syn_value.specs.declared.nodes.Node.{Node}
use Rattle.syn_value.specs.declared.nodes.Seq.{Seq}
use Rattle.syn_value.specs.declared.nodes.Node.TheVariants as node
use Rattle.syn_value.specs.inner.Nodes.{items, meaning}
use Rattle.syn_value.proofs.Meanings.{meaning-List, meaning-Tuple}
use Rattle.syn_value.proofs.Trees.{List-injective, Tuple-injective}

pub same_lists : (a b : Node) (xs ys : Seq) (r : Bool) → a ≡ node.List xs → b ≡ node.List ys → (IsTrue r ↔ (items xs ≡ items ys)) → IsTrue r ↔ (meaning a ≡ meaning b)
same_lists a b xs ys r is_a is_b h =
    let at_a : meaning a ≡ view.List (items xs) = ap meaning is_a ∙ meaning-List xs in
    let at_b : meaning b ≡ view.List (items ys) = ap meaning is_b ∙ meaning-List ys in
    (λ yes. at_a ∙ (ap view.List (h.0 yes) ∙ sym at_b), λ e. h.1 (List-injective (items xs) (items ys) (sym at_a ∙ (e ∙ at_b))))

pub same_tuples : (a b : Node) (xs ys : Seq) (r : Bool) → a ≡ node.Tuple xs → b ≡ node.Tuple ys → (IsTrue r ↔ (items xs ≡ items ys)) → IsTrue r ↔ (meaning a ≡ meaning b)
same_tuples a b xs ys r is_a is_b h =
    let at_a : meaning a ≡ view.Tuple (items xs) = ap meaning is_a ∙ meaning-Tuple xs in
    let at_b : meaning b ≡ view.Tuple (items ys) = ap meaning is_b ∙ meaning-Tuple ys in
    (λ yes. at_a ∙ (ap view.Tuple (h.0 yes) ∙ sym at_b), λ e. h.1 (Tuple-injective (items xs) (items ys) (sym at_a ∙ (e ∙ at_b))))
