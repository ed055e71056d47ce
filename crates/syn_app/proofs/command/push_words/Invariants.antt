use Rattle.std.proofs.Common.{◌≡◌, map, take, string_bytes}
use Rattle.syn_app.proofs.command.push_words.Given as goal

abbrev pub invariant-loop-word : goal.invariant-loop-word
invariant-loop-word l = l.texts ≡ map string_bytes (take l.word-index l.words)
