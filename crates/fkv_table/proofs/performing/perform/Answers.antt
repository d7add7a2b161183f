-- A compare and swap is allowed as what is asked.
use Rattle.std.proofs.Common.{◌≡◌, ◌<◌, ℕ, Some, ap, sym, subst, ◌∙◌}
use Rattle.std.specs.Prelude.{◌==◌, if◌then◌else◌}
use Rattle.fkv_plane.specs.Asked.{asked}
use Rattle.atomic_table.specs.Table.{step}
use mathlib.Core.Option.{none}
use Rattle.fkv_epoch.proofs.Shown.{some_same}
use Rattle.fkv_table.specs.Said as said
use Rattle.fkv_table.proofs.performing.perform.Goals as goal

pub compare_exchange-requires : goal.compare_exchange-requires
compare_exchange-requires g c =
    let slots = c.args.words.now.table_id.slots in
    let count = c.args.words.now.table_id.words in
    let is = c.in-Cas.is in
    let word = c.requires.word in
    let named : said.asked_place c.args.ask.now ≡ Some c.in-Cas.place = ap (λ ask. said.asked_place ask) is in
    let there : word.0 ≡ c.in-Cas.place = some_same word.0 c.in-Cas.place (sym word.1 ∙ named) in
    let at : said.position c.in-Cas.place ≡ c.position-in-Cas.result = sym c.position-in-Cas.ensures in
    let below : c.position-in-Cas.result < count = subst (λ (x : ℕ). x < count) (ap said.position there ∙ at) word.2 in
    let allows = subst (λ ask. said.Allows (said.Ruled (said.plane (said.opening_of g.D.Device.seen)) c.args.words.now.key) slots c.args.seat.now.id c.args.seat.now.me (said.position c.in-Cas.place) (asked ask) (g.M.Play.then (said.step_of slots ask) c.args.seat.now.me)) is
    (c.requires.allows c.in-Cas.place named) in
    let placed = subst (λ (x : ℕ). said.Allows (said.Ruled (said.plane (said.opening_of g.D.Device.seen)) c.args.words.now.key) slots c.args.seat.now.id c.args.seat.now.me x (λ n. if n == c.in-Cas.old then c.in-Cas.new else n) (g.M.Play.then (step slots x c.in-Cas.old c.in-Cas.new none) c.args.seat.now.me)) at allows in
    (c.requires.table, below, placed)
