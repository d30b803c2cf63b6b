use Rattle.std.proofs.Common.{◌≡◌, drop, map}
use Rattle.std.specs.Map.{lookup}
use Rattle.fb_tree.specs.Text.Forms.{same_word}
use Rattle.fb_grammar.proofs.keywords.among.Given as goal

abbrev pub invariant-loop-spelling : goal.invariant-loop-spelling
invariant-loop-spelling l =
    lookup (same_word l.word) (map (λ e. (e.0.now, e.1)) (drop l.spelling-index l.words)) ≡ lookup (same_word l.word) (map (λ e. (e.0.now, e.1)) l.words)
