use Rattle.std.proofs.Common.{◌≡◌, subst}
use Rattle.std.specs.Option.{option_map}
use Rattle.syn_term.specs.Symbols.{symbol_at}
use Rattle.syn_model.specs.Calls.{Meaning}
use Rattle.syn_eval.specs.inner.Rules.{entry_seen, known_of}
use Rattle.syn_eval.proofs.EntryLaws.{found_entry}
use Rattle.syn_eval.proofs.setting.Setting.entry.Goals as goal

pub returns : goal.returns
returns c =
    let s = c.self.inside in
    subst (λ (m : Meaning). option_map (λ e. entry_seen e.now) c.get.result ≡ option_map (known_of m.decls) (symbol_at m.table c.args.f)) c.self.view_is
    (found_entry c.get.result s.entries c.args.f.0 s.decls.now s.symbols.now.syms c.get.ensures.value c.self.invariant.entries)
