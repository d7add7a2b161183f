-- The table begins by its rule, over the world of the store as it was opened, and each seat fits its machine.
use Rattle.std.proofs.Common.{◌≡◌, ◌∙◌, sym, ap, subst, arith, List, length}
use Rattle.atomic_table.specs.Table.{opening}
use Rattle.fkv_core.specs.Worlds.{AreSeated}
use Rattle.fkv_plane.specs.Plane.{Plane}
use Rattle.fkv_seats.specs.Rule.{Ruled, first_view}
use Rattle.fkv_table.specs.Desks.{Slot}
use Rattle.fkv_table.specs.Planes.{plane, opening_of}
use Rattle.fkv_table.specs.Positions.{laid}
use Rattle.fkv_table.proofs.LaidWords.{words_counted}
use Rattle.fkv_table.proofs.Opens.{few_sitters, laid_count, opened_at, slots_at, slots_count, words_at}
use Rattle.fkv_table.proofs.Starts.{each_fresh, fresh_keeper, opens_so}
use Rattle.fkv_table.proofs.rule.Table.open.Goals as goal

pub laid_words-requires-clause-count : goal.laid_words-requires-clause-count
laid_words-requires-clause-count g c =
    let of = c.of-places.ensures in
    let world = c.in_ok-world.ensures.world in
    c.word_count-count.ensures
    ∙ (words_counted c.args.opened c.of-places.result c.in_ok-world.world.now.words world.its_words of.sessions of.buckets of.overflow of.ring
    ∙ ap (λ (x : Plane). length x.words) (sym c.into_parts-plane.ensures.words))

pub desk_slot-requires : goal.desk_slot-requires
desk_slot-requires g c =
    let few = few_sitters c.args.opened c.in_ok-world.world.now c.into_parts-plane.result.1.items c.in_ok-world.ensures.world c.into_parts-plane.ensures.sessions in
    omega (arith, few)

pub shared_table-requires : goal.shared_table-requires
shared_table-requires g c =
    let seen = g.D.Device.seen in
    let key = c.of-about.result in
    let words_are =
    c.deref.ensures.value ∙ (c.in_ok-words.ensures.words ∙ (ap (λ (x : Plane). laid x.words) c.into_parts-plane.ensures.words ∙ ap (λ x. laid x.now.words) (sym c.of-about.ensures))) in
    let none = ap (λ x. x.now.actions) c.of-about.ensures ∙ c.in_ok-world.ensures.world.no_actions in
    subst (λ (slots : List Slot). Ruled (plane (opening_of seen)) key (opening c.deref.result.now slots (first_view (plane (opening_of seen)) key))) (sym c.in_ok-slots.ensures.slots)
    (opens_so (opening_of seen) key c.deref.result.now _ words_are none (omega arith))

pub seat_sessions-requires-clause-table : goal.seat_sessions-requires-clause-table
seat_sessions-requires-clause-table g c =
    let count = laid_count _ c.deref.result.now (c.deref.ensures.value ∙ c.in_ok-words.ensures.words) in
    (c.in_ok-table.ensures.seat.0, omega (arith, count, c.in_ok-table.ensures.counts.0))

pub seat_sessions-requires-clause-few : goal.seat_sessions-requires-clause-few
seat_sessions-requires-clause-few g c =
    let few = few_sitters c.args.opened c.in_ok-world.world.now c.into_parts-plane.result.1.items c.in_ok-world.ensures.world c.into_parts-plane.ensures.sessions in
    omega (arith, few)

pub seat_sessions-requires-clause-desks : goal.seat_sessions-requires-clause-desks
seat_sessions-requires-clause-desks g c = let count = slots_count _ _ _ c.in_ok-slots.ensures.slots in omega (arith, count, c.in_ok-table.ensures.counts.1)

pub returns-clause-sessions : goal.returns-clause-sessions
returns-clause-sessions g c =
    let seen = g.D.Device.seen in
    let w = c.in_ok-world.world in
    let key = c.in_ok-table.table.shared.key in
    let table = c.in_ok-table.table.shared.table_id in
    let parts = c.into_parts-plane in
    let shows : key.value ≡ w = ap (λ x. x.value) c.in_ok-table.ensures.key ∙ c.of-about.ensures in
    let opened = opened_at seen w key shows _ c.in_ok-world.ensures.device c.in_ok-world.ensures.opened in
    let words = words_at seen w key shows table _ c.deref.result.now (ap (λ (x : Plane). x.words) parts.ensures.words) (c.deref.ensures.value ∙ c.in_ok-words.ensures.words) c.in_ok-table.ensures.counts.0 in
    let slots = slots_at seen w key shows table parts.result.1.items _ _ _ parts.ensures.sessions c.in_ok-slots.ensures.slots (omega arith) c.in_ok-table.ensures.counts.1 opened in
    each_fresh (opening_of seen) key (λ x. x.0.machine) (λ x. x.0.desk) (λ x. x.1.seat.table_id) (λ x. x.1.seat.me) table c.in_ok-sessions.sessions.items parts.result.1.items c.in_ok-sessions.ensures.machines
    c.in_ok-sessions.ensures.seats (parts.ensures.sessions ∙ ap (λ x. x.now.sessions) (sym shows)) (subst (λ x. AreSeated x.now.shape x.now.places parts.result.1.items) (sym shows) parts.ensures.seats) opened words slots

pub returns-clause-keeper : goal.returns-clause-keeper
returns-clause-keeper g c =
    let seen = g.D.Device.seen in
    let w = c.in_ok-world.world in
    let key = c.in_ok-table.table.shared.key in
    let table = c.in_ok-table.table.shared.table_id in
    let parts = c.into_parts-plane in
    let shows : key.value ≡ w = ap (λ x. x.value) c.in_ok-table.ensures.key ∙ c.of-about.ensures in
    let opened = opened_at seen w key shows _ c.in_ok-world.ensures.device c.in_ok-world.ensures.opened in
    let words = words_at seen w key shows table _ c.deref.result.now (ap (λ (x : Plane). x.words) parts.ensures.words) (c.deref.ensures.value ∙ c.in_ok-words.ensures.words) c.in_ok-table.ensures.counts.0 in
    let slots = slots_at seen w key shows table parts.result.1.items _ _ _ parts.ensures.sessions c.in_ok-slots.ensures.slots (omega arith) c.in_ok-table.ensures.counts.1 opened in
    let rest = c.in_ok-sessions.ensures.rest in
    fresh_keeper (opening_of seen) key table (c.seat_sessions.new.rest.table_id) parts.result.2 _ c.seat_sessions.new.rest.me rest.1 rest.0
    (parts.ensures.keeper ∙ ap (λ x. record { shape = x.now.shape; places = x.now.places; state = x.now.keeper }) (sym shows)) opened words slots
