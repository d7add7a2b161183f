-- The world of an opened store is one with which the guard begins.
use Rattle.std.proofs.Common.{◌≡◌, ◌∙◌, ap, sym, refl, arith, inl, inr, ℕ, ◌+◌, ◌*◌, ◌/◌, ◌%◌, ◌^◌, ◌<◌, ◌≤◌, ◌⊎◌, List, length}
use Rattle.std.specs.Prelude.{min, replicate, take}
use Rattle.std.proofs.Math.Nat.{div-add-mod, min-le_left, mul-le-mul_right}
use Rattle.std.proofs.lemmas.Bool.{cases_lt}
use Rattle.std.proofs.lemmas.List.{get_or-append-add, get_or-replicate, length-append}
use Rattle.std.proofs.lemmas.Option.{slice_get_within}
use Rattle.fkv_base.specs.Limits.{drain_slots}
use Rattle.fkv_base.specs.declared.numbers.Addr.{Addr}
use Rattle.fkv_base.specs.declared.shapes.Shape.{Shape}
use Rattle.fkv_epoch.specs.EpochWorld.{drain_word}
use Rattle.fkv_sweep.specs.Sweeping.{Sweeper, sweep_begun}
use Rattle.law_refine.specs.Below.fkv_flush.Guarded as guard
use Rattle.law_refine.specs.Below.fkv_flush.GuardSeen.{LastSeen}
use Rattle.law_refine.specs.Below.law_world.GuardSessions.Likenesses.{last_seen}
use Rattle.law_refine.specs.Below.fkv_keeper.KeeperRun as keeper
use Rattle.law_refine.specs.Below.fkv_keeper.Keeping.{Finality}
use Rattle.law_refine.specs.Below.fkv_keeper.KeeperRun.{is_in_hand}
use Rattle.fkv_plane.specs.Places.{word_count}
use Rattle.fkv_plane.specs.Asked.{word_at}
use Rattle.law_paper.specs.Below.fkv_opening.Opening.{opening_limit}
use Rattle.law_paper.specs.Below.fkv_opening.TheOpened.{Opened}
use Rattle.law_refine.specs.Below.fkv_world.World.{Now}
use Rattle.fkv_core.specs.Openings.{IsOpeningSeen, IsOpeningWorld, beginning}
use Rattle.law_refine.specs.Below.fkv_ops.Seen.{Seen}
use Rattle.fkv_core.specs.OpeningWords.{words_before_frames, words_once}
use Rattle.fkv_core.proofs.Shown.{length-before, length-frames}
use Rattle.law_refine.specs.Below.law_world.Guarded.GuardEvents.{actor_count}
use Rattle.law_refine.specs.Below.law_world.Guarded.OpenedStore.{IsOpenedStore}
use Rattle.law_refine.specs.Below.law_world.Guarded.Shows.{IsOpened}
use Rattle.law_opening.proofs.OfLives.Words.{IsParted, once_word, parted, session_word_at}

-- the page of a place is at most two pages from the end of the room that is open
room_end : (t p d f : ℕ) → 0 < p → 2 ≤ f → t ≤ d * p → (t ≤ min (t / p + 2) d * p) × (min (t / p + 2) d * p ≤ t + f * p)
room_end t p d f some two fits =
    let q : ℕ = t / p in
    let parts : p * q + t % p ≡ t = div-add-mod t p in
    let less : t % p < p = grind (arith, some) in
    let most : min (q + 2) d * p ≤ (q + 2) * p = mul-le-mul_right p (min-le_left (q + 2) d) in
    let ring : 2 * p ≤ f * p = mul-le-mul_right p two in
    let wide : (q + 2) * p ≡ p * q + 2 * p = omega arith in
    (by (cases_lt (q + 2) d) parts less wide, omega (arith, most, ring, wide, parts))
  where
    by : ((t / p + 2 < d) ⊎ (d ≤ t / p + 2)) → p * (t / p) + t % p ≡ t → t % p < p → (t / p + 2) * p ≡ p * (t / p) + 2 * p → t ≤ min (t / p + 2) d * p
    by (inl low) parts less wide = let same : min (t / p + 2) d ≡ t / p + 2 = omega (arith, low) in rw same (omega (arith, parts, less, wide))
    by (inr high) parts less wide = let same : min (t / p + 2) d ≡ d = omega (arith, high) in rw same fits

-- there are as many words as the store has places
pub enough : (o : Opened) (n : Now) → IsOpeningWorld o n → word_count n.places ≤ length n.words
enough o n its =
    let are = its.its_words in
    let store = its.its_places in
    let front : List ℕ = words_before_frames o are.index are.taken in
    let before : length front ≡ 24 + 16 * o.shape.sessions + 8 * 2 ^ o.shape.bucket_bits + 8 * o.shape.overflow = length-before o are.index are.taken are.filled in
    let whole : length n.words ≡ length front + 3 * (o.shape.frames * o.shape.page) = ap length are.whole ∙ length-append front _ ∙ ap (λ (m : ℕ). length front + m) (length-frames o) in
    let s = store.sessions in
    let b = store.buckets in
    let v = store.overflow in
    let r = store.ring in
    omega (arith, before, whole, s, b, v, r)

-- the drain slots stand behind sixteen words
drain_is_free : (o : Opened) (taken slot : ℕ) → slot < drain_slots → word_at (words_once o taken) (16 + slot) ≡ 0
drain_is_free o taken slot small = get_or-append-add (take 16 (words_once o taken)) (replicate drain_slots 0) slot 0 ∙ get_or-replicate drain_slots slot 0 0 small

guard_words : (o : Opened) (n : Now) → IsOpeningWorld o n → guard.IsOpened n.shape n.places (actor_count n) n.words o.tail.0
guard_words o n its =
    let store = its.its_places in
    let parts : IsParted o n.words = parted o n.words its.its_words in
    let sessions = store.sessions in
    let ring = store.ring in
    let limits = o.shape.limits in
    let many : word_count n.places ≤ length n.words = enough o n its in
    let few = limits.few_sessions in
    let some_ring = n.places.some_ring in
    let some : 0 < o.shape.page = some_page o.shape.frames o.shape.page (omega (arith, ring, some_ring)) in
    let mutable = limits.some_mutable in
    let frames = limits.some_read_only in
    let disk = o.tail_on_disk in
    let room = room_end o.tail.0 o.shape.page o.shape.disk_pages o.shape.frames some (omega (arith, mutable, frames)) disk in
    let end : word_at n.words 4 ≡ opening_limit o = once_word o n.words parts 4 (omega arith) in
    let closes : word_at n.words 9 ≡ o.warm.0 = once_word o n.words parts 9 (omega arith) in
    let heads : word_at n.words 8 ≡ o.warm.0 = once_word o n.words parts 8 (omega arith) in
    rw its.its_shape (record {
      fits = record { sessions = sessions; ring = ring };
      enough_words = many;
      epochs = record {
        few_sessions = omega (arith, sessions, few);
        with_others = omega arith;
        few_actors = omega (arith, sessions, few);
        enough_words = omega (arith, many);
        first_epoch = once_word o n.words parts 0 (omega arith);
        nothing_safe = once_word o n.words parts 1 (omega arith);
        awake = λ session in_store. session_word_at o n.words parts session 0 (omega (arith, sessions, in_store)) (omega arith);
        slots_free = λ slot small. free parts slot small;
      };
      closed = (let warm = o.warm_in_log in omega (arith, closes, warm));
      head = heads ∙ sym closes;
      flushed = once_word o n.words parts 7 (omega arith);
      safe_read_only = once_word o n.words parts 6 (omega arith);
      read_only = once_word o n.words parts 5 (omega arith);
      tail = once_word o n.words parts 3 (omega arith);
      limit = end;
      tail_below = let low = room.0 in omega (arith, end, low);
      limit_below = let high = o.warm_in_ring in omega (arith, end, high, ring, closes);
    })
  where
    some_page : (f p : ℕ) → 0 < f * p → 0 < p
    some_page f p some = elim (cases_lt 0 p) [
      | inl it ↦ it
      | inr none ↦ let zero_page : p ≡ 0 = omega (arith, none) in let nothing : f * p ≡ 0 = rw zero_page (omega arith) in absurd (omega (arith, some, nothing))
    ]

    free : IsParted o n.words → (slot : ℕ) → slot < drain_slots → drain_word n.words slot ≡ 0
    free parts slot small = once_word o n.words parts (16 + slot) (omega (arith, small)) ∙ drain_is_free o parts.taken slot small

pub its_keeper_opens : (o : Opened) (n : Now) → IsOpeningWorld o n → keeper.IsOpened n.keeper
its_keeper_opens o n its =
    let k = its.its_keeper in
    record {
      none_in_hand = ap is_in_hand k.no_call;
      no_commit = k.no_commit;
      none_rest = k.none_rest;
      none_flushed = k.none_flushed;
      works = k.works;
      turns_rest = k.turns_rest;
      serves_from = k.serves_from ∙ sym (ap (λ (last : Finality). last.begin) k.newest);
      none_swept = (n.shape, n.places, k.none_swept ∙ sym (ap (λ (last : Finality). sweep_begun n.shape n.places last.begin last.begin) k.newest));
    }

abbrev seen_at : ℕ → ℕ → LastSeen
seen_at read_only head = record { read_only = read_only; head = head }

seen_so : (o : Opened) (seen : Seen) → IsOpeningSeen o seen → last_seen seen ≡ record { read_only = o.tail.0; head = o.warm.0 }
seen_so o seen saw = ap (λ (a : Addr). seen_at a.0 seen.offsets.head.0) saw.read_only ∙ ap (λ (a : Addr). seen_at o.tail.0 a.0) saw.head

guard_now : (o : Opened) (n : Now) → IsOpeningWorld o n → IsOpened n o.tail.0
guard_now o n its =
    let store = its.its_places in
    let sessions = store.sessions in
    let many = its.seats in
    record {
      words = guard_words o n its;
      buckets = store.buckets ∙ ap (λ (shape : Shape). 2 ^ shape.bucket_bits) (sym its.its_shape);
      slots = its.no_actions;
      seats = λ number s got. let within = slice_get_within n.sessions number s got in omega (arith, within, many, sessions);
      sessions = λ number s got. (its.its_sessions number s got).opened;
      seen = λ number s got. let saw = (its.its_sessions number s got).saw in seen_so o s.seen saw ∙ ap (λ (h : ℕ). seen_at o.tail.0 h) (sym (once_word o n.words (parted o n.words its.its_words) 9 (omega arith)));
      keeper = its_keeper_opens o n its;
      finishes = its.its_keeper.its_sessions ∙ sym store.sessions;
      sweeps = (ap (λ (w : Sweeper). w.shape) its.its_keeper.none_swept, ap (λ (w : Sweeper). w.places) its.its_keeper.none_swept);
    }

pub guard_opens : (o : Opened) (n : Now) (bytes : List ℕ) → IsOpeningWorld o n → IsOpenedStore (beginning n bytes) o.tail.0
guard_opens o n bytes its = record {
  now = guard_now o n its;
  no_calls = refl;
  overflow = its.its_places.overflow ∙ ap (λ (shape : Shape). shape.overflow) (sym its.its_shape);
}
