-- Each rule gives one row at most.
use Rattle.std.proofs.Common.{◌≡◌, ℕ, zero, suc, List, Option, None, Some, IfSome, slice_get, sym, ◌∙◌, ap, subst}
use Rattle.std.specs.Option.{option_map}
use Rattle.syn_term.specs.Bank.{Extends-refl, Extends-trans}
use Rattle.syn_term.specs.Symbols.{SymbolTable}
use Rattle.syn_form.specs.declared.trees.Form.{out-Form}
use Rattle.syn_form.specs.declared.trees.Form.TheOpen.{Form-F}
use Rattle.syn_form.specs.declared.trees.Side.{Side}
use Rattle.syn_form.specs.declared.trees.Side.TheVariants as side
use Rattle.syn_form.specs.Trees.{FormTree, OutTree}
use Rattle.syn_form.proofs.Equations.{out-And, out-Implies, out-Or}
use Rattle.syn_row.specs.declared.guards.GuardRule.{GuardRule}
use Rattle.syn_row.specs.Guards.{IsGuardRule}
use Rattle.syn_row.specs.Results.{Figure, Gives}
use Rattle.syn_row.specs.Rows.{IsPlain, RowTree, bare_row}
use Rattle.syn_resolve.specs.Resolution.{ReflexGives, ResolveGives, reflexed, resolved}
use Rattle.syn_resolve.specs.RuleLaws.{RuleLaws}
use Rattle.syn_resolve.specs.Splitting.{SplitGives, Splits, conclusion, conjunct, disjunct, dual_of, plain_figure, premise}
use Rattle.syn_row.proofs.Alike.{alike_gives, alike_one}
use Rattle.syn_resolve.proofs.ReplaceLaws.{equal_one}
use Rattle.syn_resolve.proofs.Choices.{ReflexChoice, ResolveChoice, reflex_alike, resolve_alike}

-- one figure gives one row
pub figure_one : (x : Figure) (p q : RowTree) → Gives x p → Gives x q → bare_row p ≡ bare_row q
figure_one x p q a b = a.is ∙ sym b.is

-- the row that a member of a row is
abbrev made : Side → Option OutTree → FormTree → RowTree
made s o f = record { side = s; form = f; out = o }

abbrev split_layer : Side → Option OutTree → Form-F FormTree → ℕ → Option RowTree
split_layer side.Assertion o (Form-F.And all) (suc i) = option_map (made side.Assertion o) (slice_get all i)
split_layer side.Goal o (Form-F.Or all) (suc i) = option_map (made side.Goal o) (slice_get all i)
split_layer side.Goal o (Form-F.Implies a b) (suc zero) = Some (made side.Assertion o a)
split_layer side.Goal o (Form-F.Implies a b) (suc (suc zero)) = Some (made side.Goal o b)
split_layer s o x i = None

abbrev split_of : RowTree → ℕ → Option RowTree
split_of r i = split_layer r.side r.out (out-Form r.form) i

split_is : (r : RowTree) (i : ℕ) (u : RowTree) → Splits r i u → split_of r i ≡ Some u
split_is r i u (conjunct all o k f e) = ap (λ (x : Form-F FormTree). split_layer side.Assertion o x (suc k)) (out-And all) ∙ ap (option_map (made side.Assertion o)) e
split_is r i u (disjunct all o k f e) = ap (λ (x : Form-F FormTree). split_layer side.Goal o x (suc k)) (out-Or all) ∙ ap (option_map (made side.Goal o)) e
split_is r i u (premise a b o) = ap (λ (x : Form-F FormTree). split_layer side.Goal o x 1) (out-Implies a b)
split_is r i u (conclusion a b o) = ap (λ (x : Form-F FormTree). split_layer side.Goal o x 2) (out-Implies a b)

-- there is one row under the line
pub split_under : (r : RowTree) (i : ℕ) (u v : RowTree) → Splits r i u → Splits r i v → u ≡ v
split_under r i u v a b = let e : Some u ≡ Some v = sym (split_is r i u a) ∙ split_is r i v b in cc

pub split_one : (r : RowTree) (i : ℕ) (p q : RowTree) → SplitGives r i p → SplitGives r i q → bare_row p ≡ bare_row q
split_one r i p q a b = figure_one (plain_figure r b.under) p q (subst (λ (z : RowTree). Gives (plain_figure r z) p) (split_under r i a.under b.under a.splits b.splits) a.gives) b.gives

-- what a rule gives comes of a choice
abbrev pub reflex_choice : (table : SymbolTable) (rule : Option GuardRule) (r : RowTree) (at : List ℕ) (q : RowTree) → ReflexGives table rule r at q → ReflexChoice table r at
reflex_choice table rule r at q g = record { left = g.left; right = g.right; there = g.there; unifier = g.unifier; general = g.general }

abbrev pub resolve_choice : (table : SymbolTable) (rule : Option GuardRule) (r s : RowTree) (ps qs : List (List ℕ)) (q : RowTree) → ResolveGives table rule r ps s qs q → ResolveChoice table r ps s qs
resolve_choice table rule r s ps qs q g = record {
  first = g.first;
  second = g.second;
  apart = g.apart;
  first_parts = g.first_parts;
  second_parts = g.second_parts;
  first_there = g.first_there;
  second_there = g.second_there;
  unifier = g.unifier;
  general = g.general;
  one = g.one;
  one_is = g.one_is;
}

module _ (table : SymbolTable) (rule : Option GuardRule) (is : IfSome rule (IsGuardRule table)) where
  module _ (r : RowTree) (plain : IsPlain table r) (at : List ℕ) where
    pub reflex_one : (p q : RowTree) → ReflexGives table rule r at p → ReflexGives table rule r at q → bare_row p ≡ bare_row q
    reflex_one p q a b =
        alike_one (reflexed rule a.unifier r) (reflexed rule b.unifier r) p q (reflex_alike table rule is r plain at (reflex_choice table rule r at p a) (reflex_choice table rule r at q b)) a.gives b.gives

    -- what one choice gives, each choice gives
    pub reflex_any : (q : RowTree) (c : ReflexChoice table r at) → ReflexGives table rule r at q → Gives (reflexed rule c.unifier r) q
    reflex_any q c g = alike_gives (reflexed rule g.unifier r) (reflexed rule c.unifier r) q (reflex_alike table rule is r plain at (reflex_choice table rule r at q g) c) g.gives

  module _ (r s : RowTree) (plain_r : IsPlain table r) (plain_s : IsPlain table s) (ps qs : List (List ℕ)) where
    pub resolve_one : (p q : RowTree) → ResolveGives table rule r ps s qs p → ResolveGives table rule r ps s qs q → bare_row p ≡ bare_row q
    resolve_one p q a b =
        alike_one (resolved rule a.unifier a.one a.first a.second) (resolved rule b.unifier b.one b.first b.second) p q
        (resolve_alike table rule is r s plain_r plain_s ps qs (resolve_choice table rule r s ps qs p a) (resolve_choice table rule r s ps qs q b)) a.gives b.gives

    pub resolve_any : (q : RowTree) (c : ResolveChoice table r ps s qs) → ResolveGives table rule r ps s qs q → Gives (resolved rule c.unifier c.one c.first c.second) q
    resolve_any q c g =
        alike_gives (resolved rule g.unifier g.one g.first g.second) (resolved rule c.unifier c.one c.first c.second) q
        (resolve_alike table rule is r s plain_r plain_s ps qs (resolve_choice table rule r s ps qs q g) c) g.gives

pub rule_laws : RuleLaws
rule_laws = record {
  split_one = split_one;
  dual_one = λ r p q a b. figure_one (plain_figure r (dual_of r)) p q a b;
  reflex_one = λ table rule r at p q is plain. reflex_one table rule is r plain at p q;
  resolve_one = λ table rule r s ps qs p q is plain_r plain_s. resolve_one table rule is r s plain_r plain_s ps qs p q;
  equal_one = λ table rule r at way s place p q is plain_r plain_s. equal_one table rule is r at way s place plain_r plain_s p q;
}

-- for the public function whose contract names the laws
pub ruleset law_rules = (Extends-refl, Extends-trans, rule_laws)
