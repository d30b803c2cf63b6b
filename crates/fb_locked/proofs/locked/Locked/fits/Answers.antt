use Rattle.std.proofs.Common.{◌≡◌, ◌∙◌, false, sym, true}
use Rattle.fb_bench.specs.History.BenchView.{all_turns}
use Rattle.fb_locked.proofs.locked.Locked.fits.Goals as goal

pub returns-then-book-turns : goal.returns-then-book-turns
returns-then-book-turns c = (
  λ is. let no : false ≡ true = is in absurd cc,
  λ fits.
      let book : c.book-book.result ≡ all_turns c.args.self.now.bench c.args.seat.now.caller = rw c.caller.ensures at c.book-book.ensures in
      absurd (c.if-book-turns.true (book ∙ fits.0 ∙ sym c.turns-turns.ensures)),
)
