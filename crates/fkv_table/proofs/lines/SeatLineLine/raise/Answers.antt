-- A load and the Cas that raises its word are one step of the table.
use Rattle.std.proofs.Common.{length, [], ◌≡◌, ◌+◌, ◌<◌, ℕ, arith, refl, sym, ap, subst, ◌∙◌}
use Rattle.std.specs.Prelude.{take, ◌==◌, ◌^◌}
use Rattle.std.proofs.lemmas.List.{length-take-le}
use mathlib.Core.Option.{none}
use prog.Atomic.{either}
use Rattle.atomic_table.specs.Table.{step, Allows}
use Rattle.fkv_plane.specs.declared.asks.Ask.TheVariants.{Load, Cas}
use Rattle.fkv_seats.specs.Rule.{Ruled}
use Rattle.fkv_straight.specs.Standing.{asked, leads}
use Rattle.fkv_table.specs.Lines.{line_of, sitter, stands}
use Rattle.fkv_table.specs.Planes.{opening_of, plane}
use Rattle.fkv_table.specs.Positions.{position}
use Rattle.fkv_table.specs.Raises.{raising}
use Rattle.fkv_table.proofs.LineSteps.{asked_is, here}
use Rattle.fkv_table.proofs.Raises.{HasRaised, raise_allowed, raised_line}
use Rattle.fkv_table.proofs.Steps.{same_some, within}
use Rattle.fkv_table.proofs.lines.SeatLineLine.raise.Goals as goal

pub position-requires-clause-fits : goal.position-requires-clause-fits
position-requires-clause-fits g c =
    let at = opening_of g.D.Device.seen in let s = c.self.inside in let expected = c.args.expected in let place = c.args.place in
    let l = line_of s.words.now.key s.words.now.table_id s.seat.me s.machine.value s.desk (take s.kept s.aside.now.replies) in
    let along = c.self.invariant.4 in
    let loads : asked l.machine.seat (stands at l) ≡ Load c.args.place = subst (λ z. asked z.machine.seat (stands at z) ≡ Load c.args.place) (sym c.self.view_is) c.requires.asked in
    let w = within at l.key l.table l.me [] (sitter at l) (Load place) along.opened (here at l along (Load place) loads (place, refl)) (asked_is l.machine.seat (stands at l) (Load place) loads) (place, refl) in
    subst (λ (p : ℕ). p < 2 ^ 62) (sym (same_some place w.0 w.1)) w.3

pub compare_exchange-found-requires : goal.compare_exchange-found-requires
compare_exchange-found-requires g c =
    let at = opening_of g.D.Device.seen in let s = c.self.inside in let expected = c.args.expected in let place = c.args.place in
    let l = line_of s.words.now.key s.words.now.table_id s.seat.me s.machine.value s.desk (take s.kept s.aside.now.replies) in
    let along = c.self.invariant.4 in
    let loads : asked l.machine.seat (stands at l) ≡ Load c.args.place = subst (λ z. asked z.machine.seat (stands at z) ≡ Load c.args.place) (sym c.self.view_is) c.requires.asked in
    let then : asked l.machine.seat (leads l.machine.seat (stands at l) c.args.expected) ≡ Cas c.args.place c.args.expected (c.args.expected + 1) =
    subst (λ z. asked z.machine.seat (leads z.machine.seat (stands at z) c.args.expected) ≡ Cas c.args.place c.args.expected (c.args.expected + 1)) (sym c.self.view_is) c.requires.then in
    let w = within at l.key l.table l.me [] (sitter at l) (Load place) along.opened (here at l along (Load place) loads (place, refl)) (asked_is l.machine.seat (stands at l) (Load place) loads) (place, refl) in (
      c.self.invariant.0,
      subst (λ n. n < l.table.words) (ap position (sym (same_some place w.0 w.1)) ∙ sym c.position.ensures) w.2,
      subst (λ i. Allows (Ruled (plane at) l.key) l.table.slots s.seat.id l.me i (λ n. either (n == expected) (expected + 1) n) (raising at (step l.table.slots i expected (expected + 1) none) l.me)) (sym c.position.ensures)
          (raise_allowed at l along place expected (expected + 1) loads then l.table.slots s.seat.id),
    )

pub invariant_of-self : goal.invariant_of-self
invariant_of-self g c =
    let at = opening_of g.D.Device.seen in let s = c.self.inside in let expected = c.args.expected in let place = c.args.place in
    let l = line_of s.words.now.key s.words.now.table_id s.seat.me s.machine.value s.desk (take s.kept s.aside.now.replies) in
    let along = c.self.invariant.4 in
    let loads : asked l.machine.seat (stands at l) ≡ Load c.args.place = subst (λ z. asked z.machine.seat (stands at z) ≡ Load c.args.place) (sym c.self.view_is) c.requires.asked in
    let then : asked l.machine.seat (leads l.machine.seat (stands at l) c.args.expected) ≡ Cas c.args.place c.args.expected (c.args.expected + 1) =
    subst (λ z. asked z.machine.seat (leads z.machine.seat (stands at z) c.args.expected) ≡ Cas c.args.place c.args.expected (c.args.expected + 1)) (sym c.self.view_is) c.requires.then in
    let me = c.compare_exchange-found.new.seat.me in
    let told : raising at (step l.table.slots (position place) expected (expected + 1) none) l.me expected me =
    subst (λ (x : ℕ × ℕ). raising at (step l.table.slots x.0 expected (expected + 1) none) l.me x.1 me) (λ i. (c.position.ensures i, c.if-found-expected.true i)) c.compare_exchange-found.ensures.2 in
    let both = raised_line at l along place expected (expected + 1) loads then l.table.slots me told (take (s.kept + 2) c.keep_twice.new.replies) c.keep_twice.ensures.items in
    let held : length (take s.kept s.aside.now.replies) ≡ s.kept = length-take-le s.kept s.aside.now.replies (omega (arith, c.self.invariant.2, c.self.invariant.3)) in
    let fits : s.kept < 63 = subst (λ n. n < 63) (ap (λ z. length z.replies) (sym c.self.view_is) ∙ held) c.requires.room in (
      c.compare_exchange-found.ensures.0 ∙ c.self.invariant.0,
      c.self.invariant.1,
      omega (arith, fits),
      c.keep_twice.ensures.length,
      both.along,
    )

pub returns-then-found-expected-clause-next : goal.returns-then-found-expected-clause-next
returns-then-found-expected-clause-next g c = λ _.
    let at = opening_of g.D.Device.seen in let s = c.self.inside in let expected = c.args.expected in let place = c.args.place in
    let l = line_of s.words.now.key s.words.now.table_id s.seat.me s.machine.value s.desk (take s.kept s.aside.now.replies) in
    let along = c.self.invariant.4 in
    let loads : asked l.machine.seat (stands at l) ≡ Load c.args.place = subst (λ z. asked z.machine.seat (stands at z) ≡ Load c.args.place) (sym c.self.view_is) c.requires.asked in
    let then : asked l.machine.seat (leads l.machine.seat (stands at l) c.args.expected) ≡ Cas c.args.place c.args.expected (c.args.expected + 1) =
    subst (λ z. asked z.machine.seat (leads z.machine.seat (stands at z) c.args.expected) ≡ Cas c.args.place c.args.expected (c.args.expected + 1)) (sym c.self.view_is) c.requires.then in
    let me = c.compare_exchange-found.new.seat.me in
    let told : raising at (step l.table.slots (position place) expected (expected + 1) none) l.me expected me =
    subst (λ (x : ℕ × ℕ). raising at (step l.table.slots x.0 expected (expected + 1) none) l.me x.1 me) (λ i. (c.position.ensures i, c.if-found-expected.true i)) c.compare_exchange-found.ensures.2 in
    let both = raised_line at l along place expected (expected + 1) loads then l.table.slots me told (take (s.kept + 2) c.keep_twice.new.replies) c.keep_twice.ensures.items in
    let so = subst (λ z. HasRaised at z (line_of l.key l.table me l.machine l.desk (take (s.kept + 2) c.keep_twice.new.replies)) expected) c.self.view_is both in
    so.next

pub returns-then-found-expected-clause-led : goal.returns-then-found-expected-clause-led
returns-then-found-expected-clause-led g c =
    let at = opening_of g.D.Device.seen in let s = c.self.inside in let expected = c.args.expected in let place = c.args.place in
    let l = line_of s.words.now.key s.words.now.table_id s.seat.me s.machine.value s.desk (take s.kept s.aside.now.replies) in
    let along = c.self.invariant.4 in
    let loads : asked l.machine.seat (stands at l) ≡ Load c.args.place = subst (λ z. asked z.machine.seat (stands at z) ≡ Load c.args.place) (sym c.self.view_is) c.requires.asked in
    let then : asked l.machine.seat (leads l.machine.seat (stands at l) c.args.expected) ≡ Cas c.args.place c.args.expected (c.args.expected + 1) =
    subst (λ z. asked z.machine.seat (leads z.machine.seat (stands at z) c.args.expected) ≡ Cas c.args.place c.args.expected (c.args.expected + 1)) (sym c.self.view_is) c.requires.then in
    let me = c.compare_exchange-found.new.seat.me in
    let told : raising at (step l.table.slots (position place) expected (expected + 1) none) l.me expected me =
    subst (λ (x : ℕ × ℕ). raising at (step l.table.slots x.0 expected (expected + 1) none) l.me x.1 me) (λ i. (c.position.ensures i, c.if-found-expected.true i)) c.compare_exchange-found.ensures.2 in
    let both = raised_line at l along place expected (expected + 1) loads then l.table.slots me told (take (s.kept + 2) c.keep_twice.new.replies) c.keep_twice.ensures.items in
    let so = subst (λ z. HasRaised at z (line_of l.key l.table me l.machine l.desk (take (s.kept + 2) c.keep_twice.new.replies)) expected) c.self.view_is both in
    so.led
