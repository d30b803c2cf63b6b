-- The homes passed so far are clear, and so is the path that was looked at last.
use Rattle.std.proofs.Common.{◌≡◌, None, take}
use denote.Shadow.{shadow}
use denote.Text.{Utf8}
use Rattle.fb_network.specs.Prefixes.{nearest}
use Rattle.fb_placing.specs.HomeTable.{home_by_path}
use Rattle.fb_placing.proofs.ApartLemmas.{AreClear}
use Rattle.fb_placing.proofs.homes.table.are_apart.Given as goal

abbrev pub invariant-loop-home : goal.invariant-loop-home
invariant-loop-home l = record {
  text : shadow (Utf8 l.last);
  last : nearest (home_by_path l.by_path) l.last ≡ None;
  clear : AreClear (home_by_path l.by_path) (take l.home-index l.homes);
}
