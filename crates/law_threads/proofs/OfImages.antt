-- What images hold that a crash may leave in a call of the keeper, by the law of prefixes.
use Rattle.std.proofs.Common.{◌≡◌, ℕ, ◌≤◌, ◌<◌, ◌∙◌, ap, subst, arith, List, [], ◌∷◌, ◌++◌}
use Rattle.law_order.specs.Below.fkv_core.Openings.{beginning}
use Rattle.fkv_disk.specs.Calls.{MayLeave}
use Rattle.law_order.specs.Below.fkv_opening.TheOpened.{Opened}
use Rattle.fkv_seats.specs.Rule.{AreAllowed, led}
use Rattle.fkv_seats.proofs.Keeps.{allowed_last}
use Rattle.law_order.specs.Below.fkv_world.Past.{Past}
use Rattle.law_order.specs.Below.fkv_world.Runs.{World, run}
use Rattle.law_order.specs.Below.fkv_world.World.{Calls, Event, Now}
use Rattle.law_order.proofs.Below.law_world.OfKeeper.OwnCalls.{opened_stays}
use Rattle.law_order.specs.OneHistory.EachLife.{IsLife, Life}
use Rattle.law_order.specs.Prefix.Law.{PrefixLaw, calls_so_far}
use Rattle.law_order.specs.Tickets.Few.{calls_in, with_begun}
use Rattle.fkv_table.specs.declared.happenings.Happening.{Happening}
use Rattle.fkv_table.specs.Planes.{plane}
use Rattle.fkv_table.proofs.Lives.{led_run}
use Rattle.law_threads.specs.Calls.{IsOver, events_of}
use Rattle.law_threads.specs.Images.{RecoversWithin}
use Rattle.law_threads.specs.Laws.{IsWithin}
use Rattle.law_threads.proofs.Histories.{events_both}
use Rattle.law_threads.proofs.Numbers.{calls_fit}

-- the premise of the order law holds of a life as it was
one_more : (event : Event) (count : ℕ) → count ≤ with_begun event count
one_more (Calls number call) count = omega arith
one_more event count = omega arith

fewer_before : (later before : List Event) → calls_in before ≤ calls_in (later ++ before)
fewer_before [] before = omega arith
fewer_before (event ∷ later) before =
    let rest = fewer_before later before in
    let one = one_more event (calls_in (later ++ before)) in
    omega (arith, rest, one)

few_before : (later before : List Event) (most : ℕ) → calls_in (later ++ before) < most → calls_in before < most
few_before later before most few = let less = fewer_before later before in omega (arith, less, few)

within_before : (o : Opened) (n : Now) (bytes : List ℕ) (later before : List Event) → IsWithin o n bytes (later ++ before) → IsWithin o n bytes before
within_before o n bytes later before few = few_before later before _ few

module _ {K : Type 0} (at : K → World) (key : K) (o : Opened) (n : Now) (bytes : List ℕ) (over : IsOver at key o n bytes) where
  past_so : (es : List Happening) → (led (plane at) (at key) es).past ≡ (run (beginning n bytes) (events_of es)).past
  past_so es = ap (λ (w : World). w.past) (led_run at (at key) es) ∙ ap (λ (w : World). (run w (events_of es)).past) over.same

  -- an image is left of the life that the order law knows
  left_so : (es : List Happening) (image : List ℕ) → (let p : Past = (led (plane at) (at key) es).past in MayLeave p.opened p.calls image) → MayLeave bytes (calls_so_far n bytes (events_of es)) image
  left_so es image left =
      let here : (let p : Past = (run (beginning n bytes) (events_of es)).past in MayLeave p.opened p.calls image) = subst (λ (p : Past). MayLeave p.opened p.calls image) (past_so es) left in
      subst (λ (opened : List ℕ). MayLeave opened (calls_so_far n bytes (events_of es)) image) (opened_stays (beginning n bytes) (events_of es)) here

pub recovers_within : {K : Type 0} (at : K → World) (key : K) (seen seen' : List Happening) → PrefixLaw → AreAllowed (plane at) seen' → RecoversWithin at key seen seen'
recovers_within at key seen seen' prefix may o n bytes over within far image found its agrees =
    let both : events_of seen' ≡ events_of its.to.0 ++ events_of its.now = ap events_of its.to.1 ∙ events_both its.to.0 its.now in
    let here : IsWithin o n bytes (events_of its.now) = within_before o n bytes (events_of its.to.0) (events_of its.now) (subst (λ (es : List Event). IsWithin o n bytes es) both within) in
    let life : Life = record { bytes = bytes; opened = o; world = n; events = events_of its.now } in
    let may_now : AreAllowed (plane at) its.now = allowed_last (plane at) its.to.0 its.now (subst (AreAllowed (plane at)) its.to.1 may) in
    let is : IsLife life = record { store = over.store; begins = over.begins; fits = calls_fit at its.now may_now; few = here } in
    record { now = its.now; from = its.from; to = its.to; holds = prefix.recovered life is far found (record { image = image; left = left_so at key o n bytes over its.now image its.left; agrees = agrees }) }
