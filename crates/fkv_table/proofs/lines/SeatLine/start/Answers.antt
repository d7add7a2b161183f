-- The first step of a call adds its start.
use Rattle.std.proofs.Common.{ℕ, length, [], ◌∷◌, ◌≡◌, arith, sym, ap, subst, ◌∙◌, List, false}
use Rattle.std.specs.Prelude.{take}
use Rattle.atomic_table.specs.Table.{Allows}
use Rattle.fkv_plane.specs.Asked.{asked as asked_word}
use Rattle.fkv_seats.specs.Rule.{Ruled}
use Rattle.fkv_session.specs.Sessions.{is_busy}
use Rattle.fkv_straight.specs.Standing.{asked, begins, leads}
use Rattle.fkv_table.specs.declared.happenings.Happening.TheVariants.{Calls}
use Rattle.fkv_table.specs.Asks.{step_of}
use Rattle.fkv_table.specs.Desks.{turned}
use Rattle.fkv_table.specs.Lines.{HasLed, line_of, stands}
use Rattle.fkv_table.specs.Planes.{opening_of, plane}
use Rattle.fkv_table.specs.Positions.{position}
use Rattle.fkv_table.proofs.LineSteps.{asked_is, begun_here, first_line, led_first}
use Rattle.fkv_table.proofs.Steps.{allowed, within}
use Rattle.fkv_table.proofs.lines.SeatLine.start.Goals as goal

pub perform_first-reply-requires : goal.perform_first-reply-requires
perform_first-reply-requires g c =
    let at = opening_of g.D.Device.seen in let s = c.self.inside in let call = c.args.call in let k = s.machine.value.seat in
    let l = line_of s.words.now.key s.words.now.table_id s.seat.me s.machine.value s.desk (take s.kept s.aside.now.replies) in
    let along = c.self.invariant.4 in
    let idle : is_busy (stands at l).step ≡ false = subst (λ z. is_busy (stands at z).step ≡ false) (sym c.self.view_is) c.requires.idle in
    let fits = c.law_start_stands.ensures k.number in
    let asks : asked k (begins k (stands at l) call) ≡ c.args.ask.now = subst (λ z. asked z.machine.seat (begins z.machine.seat (stands at z) call) ≡ c.args.ask.now) (sym c.self.view_is) c.requires.asked in
    let its = asked_is k (begins k (stands at l) call) c.args.ask.now asks in
    let sits = begun_here at l along idle call fits in
    record {
      table = c.self.invariant.0;
      word = within at l.key l.table l.me (Calls k.number call ∷ []) (record l.machine { state = begins k (stands at l) call }) c.args.ask.now along.opened sits its c.requires.word;
      allows = λ place is. subst (λ (n : ℕ). Allows (Ruled (plane at) l.key) l.table.slots s.seat.id l.me (position place) (asked_word c.args.ask.now) (turned at (λ _. Calls n call ∷ []) (step_of l.table.slots c.args.ask.now) l.me)) (sym c.self.invariant.1)
          (allowed at l.key l.table.slots _ l.me (λ _. Calls k.number call ∷ []) (record l.machine { state = begins k (stands at l) call }) c.args.ask.now along.opened.opening sits its place is);
      past = c.requires.past;
    }

pub invariant_of-self : goal.invariant_of-self
invariant_of-self g c =
    let at = opening_of g.D.Device.seen in let s = c.self.inside in let call = c.args.call in let k = s.machine.value.seat in
    let l = line_of s.words.now.key s.words.now.table_id s.seat.me s.machine.value s.desk (take s.kept s.aside.now.replies) in
    let along = c.self.invariant.4 in
    let idle : is_busy (stands at l).step ≡ false = subst (λ z. is_busy (stands at z).step ≡ false) (sym c.self.view_is) c.requires.idle in
    let fits = c.law_start_stands.ensures k.number in
    let asks : asked k (begins k (stands at l) call) ≡ c.args.ask.now = subst (λ z. asked z.machine.seat (begins z.machine.seat (stands at z) call) ≡ c.args.ask.now) (sym c.self.view_is) c.requires.asked in
    let only : (take 1 c.keep.new.replies) ≡ c.perform_first-reply.result ∷ [] = c.keep.ensures.items in
    let told = subst (λ (n : ℕ). turned at (λ _. Calls n call ∷ []) (step_of l.table.slots c.args.ask.now) l.me c.perform_first-reply.result c.perform_first-reply.new.seat.me) c.self.invariant.1 c.perform_first-reply.ensures.told in (
      c.perform_first-reply.ensures.seat.0 ∙ c.self.invariant.0,
      c.self.invariant.1,
      omega arith,
      c.keep.ensures.length,
      (first_line at l along idle call fits c.args.ask.now asks c.requires.word l.table.slots c.perform_first-reply.result c.perform_first-reply.new.seat.me told (take 1 c.keep.new.replies) only).along,
    )

pub returns : goal.returns
returns g c =
    let at = opening_of g.D.Device.seen in let s = c.self.inside in let call = c.args.call in let k = s.machine.value.seat in
    let l = line_of s.words.now.key s.words.now.table_id s.seat.me s.machine.value s.desk (take s.kept s.aside.now.replies) in
    let along = c.self.invariant.4 in
    let idle : is_busy (stands at l).step ≡ false = subst (λ z. is_busy (stands at z).step ≡ false) (sym c.self.view_is) c.requires.idle in
    let fits = c.law_start_stands.ensures k.number in
    let asks : asked k (begins k (stands at l) call) ≡ c.args.ask.now = subst (λ z. asked z.machine.seat (begins z.machine.seat (stands at z) call) ≡ c.args.ask.now) (sym c.self.view_is) c.requires.asked in
    let only : (take 1 c.keep.new.replies) ≡ c.perform_first-reply.result ∷ [] = c.keep.ensures.items in
    let told = subst (λ (n : ℕ). turned at (λ _. Calls n call ∷ []) (step_of l.table.slots c.args.ask.now) l.me c.perform_first-reply.result c.perform_first-reply.new.seat.me) c.self.invariant.1 c.perform_first-reply.ensures.told in
    let on = line_of l.key l.table c.perform_first-reply.new.seat.me l.machine l.desk (take 1 c.keep.new.replies) in
    let step = first_line at l along idle call fits c.args.ask.now asks c.requires.word l.table.slots c.perform_first-reply.result c.perform_first-reply.new.seat.me told (take 1 c.keep.new.replies) only in
    let so = led_first at l along idle call fits c.args.ask.now asks c.requires.word l.table.slots c.perform_first-reply.result c.perform_first-reply.new.seat.me told (take 1 c.keep.new.replies) only in
    record {
      next = subst (λ z. stands at on ≡ leads z.machine.seat (begins z.machine.seat (stands at z) call) c.perform_first-reply.result) c.self.view_is step.next;
      led = subst (λ z. HasLed at z call on) c.self.view_is so;
      kept = ap length only;
      machine = ap (λ z. z.machine) c.self.view_is;
    }
