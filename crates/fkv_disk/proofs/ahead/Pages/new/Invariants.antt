use Rattle.std.proofs.Common.{◌≡◌, length}
use Rattle.std.specs.List.{All}
use Rattle.fkv_disk.specs.Pages.{IsBlank}
use Rattle.fkv_disk.proofs.ahead.Pages.new.Given as goal

abbrev pub invariant-loop : goal.invariant-loop
invariant-loop l = (length l.pages.items ≡ l.counter) × All IsBlank l.pages.items
