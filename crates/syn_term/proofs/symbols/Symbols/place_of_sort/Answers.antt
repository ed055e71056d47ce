use Rattle.std.proofs.Common.{◌∙◌, ap, length, map, sym}
use Rattle.std.proofs.lemmas.List.{length-map}
use Rattle.syn_term.proofs.KeyLemmas.{place_among}
use Rattle.syn_term.proofs.SortLemmas.{has_place, place_few}
use Rattle.syn_term.proofs.symbols.Symbols.place_of_sort.Goals as goal

pub returns-clause-place : goal.returns-clause-place
returns-clause-place c =
    place_among (map (λ s. s.name) c.args.self.now.sorts) c.self.inside.sizes.entries c.args.name.now _
    (c.self.invariant.sized.names ∙ ap (λ t. map (λ s. s.name) t.sorts) c.self.view_is) c.get_index_of.ensures.index

pub returns-clause-few : goal.returns-clause-few
returns-clause-few c =
    place_few c.self.inside.sizes.entries c.self.inside.sorts _
    (sym (length-map c.self.inside.sizes.entries _) ∙ (ap length c.self.invariant.sized.names ∙ length-map c.self.inside.sorts _)) c.self.invariant.few c.get_index_of.ensures.within

pub returns-clause-named : goal.returns-clause-named
returns-clause-named c = has_place c.args.self.now.sorts c.args.name.now _ (returns-clause-place c)
