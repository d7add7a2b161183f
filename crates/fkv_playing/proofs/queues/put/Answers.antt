-- The queue that stands at the call's place is its actor's, or stands behind it.
use Rattle.std.proofs.Common.{◌≡◌, ◌≤◌, Some, refl, sym, ap, ◌∙◌, arith, slice_get, length}
use Rattle.std.proofs.lemmas.Bool.{ltb-true, ltb-false}
use Rattle.std.proofs.lemmas.Option.{slice_get_read, slice_get_within, same_Some}
use Rattle.std.proofs.lemmas.Result.{on_ok_weaker}
use Rattle.fkv_playing.specs.Queues.{QueueState, rank_of}
use Rattle.fkv_playing.proofs.Putting.{put_between, put_behind}
use Rattle.fkv_playing.proofs.Queuing.{set_same}
use Rattle.fkv_playing.proofs.queues.put.Goals as goal
use Rattle.fkv_playing.proofs.queues.put.Goals.{in-Some+else-not-comes_before, in_default}

pub returns-then-not-comes_before : goal.returns-then-not-comes_before
returns-then-not-comes_before c =
    let items = c.args.queues.now.items in
    let queue = c.in-Some.queue.now in
    let at = c.place_of-at.result in
    let it : slice_get items at ≡ Some queue = slice_get_read items (length items) at queue refl c.in-Some.ensures.item.3.0 c.in-Some.ensures.value in
    let here = rw c.deref.ensures.value at c.place_of-at.ensures.here in
    let low = here queue it in
    let high = ltb-false (rank_of c.args.call) (rank_of c.queue.inside.first) (sym c.comes_before.ensures ∙ c.if-not-comes_before.true) in
    let first : rank_of c.queue.inside.first ≡ queue.rank = ap (λ (q : QueueState). q.rank) c.queue.view_is in
    on_ok_weaker c.push.result (λ is calls old. rw is (put_behind calls c.args.call items old at queue it (omega arith))) c.push.ensures

pub returns : goal.returns
returns c =
    let items = c.args.queues.now.items in
    let at = c.place_of-at.result in
    let within : at ≤ length items = rw c.deref.ensures.value at c.place_of-at.ensures.within in
    let below = rw c.deref.ensures.value at c.place_of-at.ensures.below in
    λ calls old. elim c.match-get_mut.branch [
      | in-Some+else-not-comes_before w ↦
          let queue = w.in-Some.queue.now in
          let it : slice_get items at ≡ Some queue = slice_get_read items (length items) at queue refl w.in-Some.ensures.item.3.0 w.in-Some.ensures.value in
          let high = ltb-true (rank_of c.args.call) (rank_of w.queue.inside.first) (sym w.comes_before.ensures ∙ w.if-not-comes_before.false) in
          let first : rank_of w.queue.inside.first ≡ queue.rank = ap (λ (q : QueueState). q.rank) w.queue.view_is in
          put_between calls c.args.call items old at c.match-get_mut.queues.items _ c.in_ok-of.field-0 (ap (λ v. v.items) w.queues-is ∙ set_same items at queue it) c.in_ok-insert.ensures.items
          c.in_ok-of.ensures within below
          (λ other e. let same : queue.rank ≡ other.rank = ap (λ (q : QueueState). q.rank) (same_Some queue other (sym it ∙ e)) in omega arith)
      | in_default w ↦
          let past : length items ≤ at = w.in_default.ensures.item.3 in
          put_between calls c.args.call items old at c.match-get_mut.queues.items _ c.in_ok-of.field-0 (ap (λ v. v.items) w.queues-is) c.in_ok-insert.ensures.items
          c.in_ok-of.ensures within below
          (λ other e. let lt = slice_get_within items at other e in absurd (omega arith))
    ]
