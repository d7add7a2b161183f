-- Steps of the machines that reserve, write and invalidate records, of the flush, and of the mailboxes.
use Rattle.std.proofs.Common.{◌≡◌, ℕ, ◌+◌, ◌-◌, ◌*◌, ◌%◌, ◌^◌, ◌<◌, ◌≤◌, ◌⊎◌, List, refl, arith, inl, inr, Bool, true, false, max}
use Rattle.std.specs.Prelude.{Some, None, slice_get, nat_lt, nat_le, ◌==◌, ◌&&◌, ◌||◌}
use Rattle.std.proofs.lemmas.List.{set-get_or}
use Rattle.std.proofs.lemmas.Bool.Decides.{nat_tests}
use Rattle.fkv_plane.specs.Asked.{word_at}
use Rattle.fkv_plane.specs.Places.{record_place, session_place}
use Rattle.fkv_plane.specs.declared.places.RecordWord.TheVariants as rec
use Rattle.fkv_plane.specs.declared.places.SessionWord.TheVariants as own
use Rattle.fkv_log.specs.declared.reserving.Reserving.{Reserving}
use Rattle.fkv_log.specs.declared.filling.Filling.{Filling}
use Rattle.fkv_log.specs.declared.invalidating.Invalidating.{Invalidating}
use Rattle.fkv_log.specs.declared.reserving.Reserving.TheVariants as reserve
use Rattle.fkv_log.specs.declared.filling.Filling.TheVariants as fill
use Rattle.fkv_log.specs.declared.invalidating.Invalidating.TheVariants as invalidate
use Rattle.fkv_log.proofs.Shown.{within_low}
use Rattle.fkv_log.specs.Reserving.{reserve_ask, reserve_next, reserve_next_ask, limit_within}
use Rattle.fkv_log.specs.Filling.{fill_ask, fill_next}
use Rattle.fkv_log.specs.Invalidating.{invalidate_ask, invalidate_next}
use Rattle.fkv_flush.specs.declared.flushing.Flushing.{Flushing}
use Rattle.fkv_flush.specs.declared.flushing.Flushing.TheVariants as flush
use Rattle.fkv_flush.specs.declared.serving.Serving.{Serving}
use Rattle.fkv_flush.specs.declared.serving.Serving.TheVariants as serve
use Rattle.fkv_flush.specs.Flushing.{flush_ask, flush_next, flush_done, bytes_next, bytes_done}
use Rattle.fkv_flush.specs.Serving.{serve_ask, serve_next, serve_read, gone_mail, mailbox_from}
use Rattle.fkv_flush.specs.GuardLevels.{Levels, levels_of}
use Rattle.fkv_flush.specs.GuardWorld.{Actor, Work, Reserves, Fills, Invalidates, Flushes, Serves, GuardWorld, put_near, work_step, is_idle}
use Rattle.fkv_flush.proofs.GuardSound.{Knows, IsSound, Awake, after}
use Rattle.fkv_flush.proofs.GuardSteps.{looks, writes_elsewhere, high_elsewhere, IsElsewhere}
use Rattle.fkv_flush.proofs.GuardOffsets.{lifted, lifted_epochs, tail_written, flushed_written}

-- a test is met or not
pub truth : (b : Bool) → (b ≡ true) ⊎ (b ≡ false)
truth true = inl refl
truth false = inr refl

-- the world is sound after one ask of this machine
abbrev pub SoundAfter : GuardWorld → ℕ → Actor → Work → Type 0
SoundAfter w a x work = IsSound (record { now = put_near w.now a (work_step w.now a x work); past = w.past })

-- what the actor knows
abbrev pub Known : GuardWorld → ℕ → Actor → Work → Type 0
Known w a x work = Knows w.now.shape (levels_of w.now.words) (Awake w.now a x.machine) x.machine x.undecided work

pub reserve_moves : (w : GuardWorld) (a : ℕ) (x : Actor) (step : Reserving) → IsSound w → slice_get w.now.actors a ≡ Some x → is_idle (Reserves step) ≡ false → Known w a x (Reserves step) → SoundAfter w a x (Reserves step)
unfolding reserve_ask reserve_next reserve_next_ask
reserve_moves w a x reserve.AtRest sound got busy k = cc
reserve_moves w a x (reserve.LoadsLimit bound) sound got busy k =
    rw (set-get_or w.now.words 4 0)
    (looks w a x (record x { work = Reserves (reserve.LoadsTail (limit_within bound (word_at w.now.words 4))) }) sound got refl refl (λ addr u. u) (k.0, k.1, within_low bound (word_at w.now.words 4)))
reserve_moves w a x (reserve.LoadsTail limit) sound got busy k =
    let t : ℕ = word_at w.now.words 3 in
    rw (set-get_or w.now.words 3 0)
    (elim (truth (nat_lt t limit)) [
      | inl e ↦ rw e (looks w a x (record x { work = Reserves (reserve.TakesTail t) }) sound got refl refl (λ addr u. u) (k.0, k.1, let h : t < limit = grind (arith, nat_tests, e) in let i = k.2 in omega (arith, h, i)))
      | inr e ↦ rw e (elim (truth (t == w.now.shape.disk_pages * w.now.shape.page)) [
        | inl f ↦ rw f (looks w a x (record x { work = Reserves reserve.AtRest }) sound got refl refl (λ addr u. u) tt)
        | inr f ↦ rw f (looks w a x (record x { work = Reserves reserve.AtRest }) sound got refl refl (λ addr u. u) tt)
      ])
    ])
reserve_moves w a x (reserve.TakesTail tail) sound got busy k =
    let l : Levels = levels_of w.now.words in
    let o = sound.guard.in_order in
    elim (truth (l.tail == tail)) [
      | inl e ↦
          let here : l.tail ≡ tail = grind (arith, nat_tests, e) in
          let x' : Actor = record x { work = Reserves reserve.AtRest; undecided = Some tail } in
          let l' : Levels = record l { tail = tail + 1 } in
          let low = o.read_only_below in
          let room : tail < l.limit = k.2 in
          rw e
          (lifted w a x x' 3 (tail + 1) l' sound got (lifted_epochs w a x x' 3 (tail + 1) sound got (omega arith) (omega arith) refl) (omega arith) (omega arith)
          (tail_written w.now.words (tail + 1) (let h = sound.epochs.enough_words in omega (arith, h)))
          (record { closed = omega arith; head = omega arith; flushed = omega arith; safe_read_only = omega arith; read_only = omega arith; tail = omega (arith, here); limit = omega arith })
          (record { closed_below = o.closed_below; head_below = o.head_below; flushed_below = o.flushed_below; safe_below = o.safe_below; read_only_below = omega (arith, low, here); tail_below = omega (arith, room) })
          sound.guard.cover refl refl (λ sight. refl) refl (λ slot c i. i) refl
          (λ addr u. let same : tail ≡ addr = cc in inr (k.0, omega (arith, same, here, low), omega (arith, same))) tt)
      | inr e ↦ rw e (rw (set-get_or w.now.words 3 0) (looks w a x (record x { work = Reserves reserve.AtRest }) sound got refl refl (λ addr u. u) tt))
    ]

pub fill_moves : (w : GuardWorld) (a : ℕ) (x : Actor) (step : Filling) → IsSound w → slice_get w.now.actors a ≡ Some x → is_idle (Fills step) ≡ false → Known w a x (Fills step) → SoundAfter w a x (Fills step)
unfolding fill_ask fill_next
fill_moves w a x fill.AtRest sound got busy k = cc
fill_moves w a x (fill.StoresValue addr its_words) sound got busy k =
    writes_elsewhere w a x (record x { work = Fills (fill.StoresKey addr its_words) }) (record_place w.now.places addr.0 rec.Value) its_words.value sound got (high_elsewhere w.now.places.sessions (record_place w.now.places addr.0 rec.Value) (omega arith)) refl refl (λ _ u. u) k
fill_moves w a x (fill.StoresKey addr its_words) sound got busy k =
    writes_elsewhere w a x (record x { work = Fills (fill.StoresHeader addr its_words) }) (record_place w.now.places addr.0 rec.Key) its_words.key.0 sound got (high_elsewhere w.now.places.sessions (record_place w.now.places addr.0 rec.Key) (omega arith)) refl refl (λ _ u. u) k
fill_moves w a x (fill.StoresHeader addr its_words) sound got busy k =
    writes_elsewhere w a x (record x { work = Fills fill.AtRest }) (record_place w.now.places addr.0 rec.Header) _ sound got (high_elsewhere w.now.places.sessions (record_place w.now.places addr.0 rec.Header) (omega arith)) refl refl (λ _ u. u) tt

pub invalidate_moves : (w : GuardWorld) (a : ℕ) (x : Actor) (step : Invalidating) → IsSound w → slice_get w.now.actors a ≡ Some x → is_idle (Invalidates step) ≡ false → Known w a x (Invalidates step) → SoundAfter w a x (Invalidates step)
unfolding invalidate_ask invalidate_next
invalidate_moves w a x invalidate.AtRest sound got busy k = cc
invalidate_moves w a x (invalidate.StoresHeader addr header) sound got busy k =
    writes_elsewhere w a x (record x { work = Invalidates invalidate.AtRest; undecided = None }) (record_place w.now.places addr.0 rec.Header) _ sound got (high_elsewhere w.now.places.sessions (record_place w.now.places addr.0 rec.Header) (omega arith)) refl refl (λ _ u. cc) tt

-- a load by a flush
flush_looks : (w : GuardWorld) (a : ℕ) (x : Actor) (step : Flushing) (bytes : List ℕ) → IsSound w → slice_get w.now.actors a ≡ Some x → Known w a x (Flushes step bytes) → IsSound (after w a (record x { work = Flushes step bytes }) w.now.words w.now.actions w.past)
flush_looks w a x step bytes sound got k = looks w a x (record x { work = Flushes step bytes }) sound got refl refl (λ addr u. u) k

pub flush_moves : (w : GuardWorld) (a : ℕ) (x : Actor) (step : Flushing) (bytes : List ℕ) → IsSound w → slice_get w.now.actors a ≡ Some x → is_idle (Flushes step bytes) ≡ false → Known w a x (Flushes step bytes) → SoundAfter w a x (Flushes step bytes)
unfolding flush_ask flush_next bytes_next
flush_moves w a x flush.AtRest bytes sound got busy k = cc
flush_moves w a x flush.LoadsFlushed bytes sound got busy k = rw (set-get_or w.now.words 7 0) (flush_looks w a x (flush.LoadsEnd (word_at w.now.words 7)) bytes sound got tt)
flush_moves w a x (flush.LoadsEnd flushed) bytes sound got busy k =
    rw (set-get_or w.now.words 6 0)
    (elim (truth (nat_lt flushed (word_at w.now.words 6) && nat_lt (word_at w.now.words 6) (2 ^ 48))) [
      | inl e ↦ rw e (flush_looks w a x _ bytes sound got (omega arith))
      | inr e ↦ rw e (flush_looks w a x flush.AtRest bytes sound got tt)
    ])
flush_moves w a x (flush.LoadsWord part addr rec.Header) bytes sound got busy k = rw (set-get_or w.now.words (record_place w.now.places addr rec.Header) 0) (flush_looks w a x (flush.LoadsWord part addr rec.Key) _ sound got k)
flush_moves w a x (flush.LoadsWord part addr rec.Key) bytes sound got busy k = rw (set-get_or w.now.words (record_place w.now.places addr rec.Key) 0) (flush_looks w a x (flush.LoadsWord part addr rec.Value) _ sound got k)
flush_moves w a x (flush.LoadsWord part addr rec.Value) bytes sound got busy k =
    rw (set-get_or w.now.words (record_place w.now.places addr rec.Value) 0)
    (elim (truth (nat_lt (addr + 1) part.stop)) [
      | inl e ↦ rw e (flush_looks w a x (flush.LoadsWord part (addr + 1) rec.Header) _ sound got k)
      | inr e ↦ rw e (flush_looks w a x (flush.WritesPart part) _ sound got k)
    ])
flush_moves w a x (flush.WritesPart part) bytes sound got busy k = flush_looks w a x (flush.WritesPart part) bytes sound got k
flush_moves w a x (flush.Syncs end) bytes sound got busy k = flush_looks w a x (flush.Syncs end) bytes sound got k
flush_moves w a x (flush.RaisesFlushed end) bytes sound got busy k =
    let l : Levels = levels_of w.now.words in
    let o = sound.guard.in_order in
    let v : ℕ = max l.flushed end in
    let x' : Actor = record x { work = Flushes flush.AtRest bytes } in
    let below : end ≤ l.safe_read_only = k in
    let low = o.head_below in
    let high = o.flushed_below in
    lifted w a x x' 7 v (record l { flushed = v }) sound got (lifted_epochs w a x x' 7 v sound got (omega arith) (omega arith) refl) (omega arith) (omega arith)
    (flushed_written w.now.words v (let h = sound.epochs.enough_words in omega (arith, h)))
    (record { closed = omega arith; head = omega arith; flushed = omega arith; safe_read_only = omega arith; read_only = omega arith; tail = omega arith; limit = omega arith })
    (record { closed_below = o.closed_below; head_below = omega (arith, low); flushed_below = omega (arith, high, below); safe_below = o.safe_below; read_only_below = o.read_only_below; tail_below = o.tail_below })
    sound.guard.cover refl refl (λ sight. refl) refl (λ slot c i. i) refl (λ addr u. inl u) tt

-- the session that comes next in a round of the mailboxes is one of the store's
pub next_mailbox : (w : GuardWorld) (a : ℕ) (x : Actor) (begin session : ℕ) → Known w a x (Serves begin (mailbox_from w.now.shape.sessions session))
unfolding mailbox_from
next_mailbox w a x begin session = elim (truth (nat_lt session w.now.shape.sessions)) [ inl e ↦ rw e (grind (arith, nat_tests, e)) | inr e ↦ rw e tt ]

serve_looks : (w : GuardWorld) (a : ℕ) (x : Actor) (begin : ℕ) (step : Serving) → IsSound w → slice_get w.now.actors a ≡ Some x → Known w a x (Serves begin step) → IsSound (after w a (record x { work = Serves begin step }) w.now.words w.now.actions w.past)
serve_looks w a x begin step sound got k = looks w a x (record x { work = Serves begin step }) sound got refl refl (λ addr u. u) k

-- a word of a mailbox is none of the epochs'
mail_elsewhere : (S p r session : ℕ) → p ≡ 24 + 16 * session + r → 1 ≤ r → r < 16 → IsElsewhere S p
mail_elsewhere S p r session e low high =
    let x : nat_lt p 2 ≡ false = grind (arith, nat_tests) in
    let y : nat_lt p 24 ≡ false = grind (arith, nat_tests) in
    let rest : (p - 24) % 16 ≡ r = omega arith in
    let z : ((p - 24) % 16 == 0) ≡ false = grind (arith, nat_tests) in
    record { foreign = rw (x, y, z) (none (nat_le 16 p) (nat_le 24 p) (nat_lt p (24 + 16 * S))); no_offset = inr (omega (arith, e)) }
  where
    none : (b c d : Bool) → ((false || (b && false)) || ((c && d) && false)) ≡ false
    none true true true = refl
    none true true false = refl
    none true false d = refl
    none false true true = refl
    none false true false = refl
    none false false d = refl

pub serve_moves : (w : GuardWorld) (a : ℕ) (x : Actor) (begin : ℕ) (step : Serving) → IsSound w → slice_get w.now.actors a ≡ Some x → is_idle (Serves begin step) ≡ false → Known w a x (Serves begin step) → SoundAfter w a x (Serves begin step)
unfolding serve_ask serve_next
serve_moves w a x begin serve.AtRest sound got busy k = cc
serve_moves w a x begin (serve.LoadsState session) sound got busy k =
    rw (set-get_or w.now.words (session_place session own.MailState) 0)
    (elim (truth (word_at w.now.words (session_place session own.MailState) == 1)) [
      | inl e ↦ rw e (serve_looks w a x begin (serve.LoadsAddress session) sound got k)
      | inr e ↦ rw e (serve_looks w a x begin (mailbox_from w.now.shape.sessions (session + 1)) sound got (next_mailbox w a x begin (session + 1)))
    ])
serve_moves w a x begin (serve.LoadsAddress session) sound got busy k =
    rw (set-get_or w.now.words (session_place session own.MailAddress) 0)
    (elim (truth (nat_lt (word_at w.now.words (session_place session own.MailAddress)) begin)) [
      | inl e ↦ rw e (serve_looks w a x begin (serve.StoresHeader session (gone_mail begin)) sound got k)
      | inr e ↦ rw e (elim (truth (nat_lt (word_at w.now.words (session_place session own.MailAddress)) (2 ^ 48))) [
        | inl e ↦ rw e (serve_looks w a x begin (serve.Reads session (word_at w.now.words (session_place session own.MailAddress))) sound got k)
        | inr e ↦ rw e (serve_looks w a x begin (mailbox_from w.now.shape.sessions (session + 1)) sound got (next_mailbox w a x begin (session + 1)))
      ])
    ])
serve_moves w a x begin (serve.Reads session addr) sound got busy k = serve_looks w a x begin (serve.Reads session addr) sound got k
serve_moves w a x begin (serve.StoresHeader session mail) sound got busy k =
    writes_elsewhere w a x (record x { work = Serves begin (serve.StoresKey session mail) }) (session_place session own.MailHeader) mail.header sound got (mail_elsewhere w.now.places.sessions (session_place session own.MailHeader) 7 session (omega arith) (omega arith) (omega arith)) refl refl (λ addr u. u) k
serve_moves w a x begin (serve.StoresKey session mail) sound got busy k =
    writes_elsewhere w a x (record x { work = Serves begin (serve.StoresValue session mail) }) (session_place session own.MailKey) mail.key sound got (mail_elsewhere w.now.places.sessions (session_place session own.MailKey) 8 session (omega arith) (omega arith) (omega arith)) refl refl (λ addr u. u) k
serve_moves w a x begin (serve.StoresValue session mail) sound got busy k =
    writes_elsewhere w a x (record x { work = Serves begin (serve.StoresReady session) }) (session_place session own.MailValue) mail.value sound got (mail_elsewhere w.now.places.sessions (session_place session own.MailValue) 9 session (omega arith) (omega arith) (omega arith)) refl refl (λ addr u. u) k
serve_moves w a x begin (serve.StoresReady session) sound got busy k =
    writes_elsewhere w a x (record x { work = Serves begin (mailbox_from w.now.shape.sessions (session + 1)) }) (session_place session own.MailState) 2 sound got (mail_elsewhere w.now.places.sessions (session_place session own.MailState) 5 session (omega arith) (omega arith) (omega arith)) refl refl (λ addr u. u) (next_mailbox w a x begin (session + 1))

-- a call of the device, made or failed
pub called_sound : (w : GuardWorld) (a : ℕ) (x : Actor) (step : Flushing) (bytes : List ℕ) (done : Bool) → IsSound w → slice_get w.now.actors a ≡ Some x → Known w a x (Flushes step bytes)
    → IsSound (after w a (record x { work = Flushes (flush_done w.now.shape.page step done) (bytes_done step bytes) }) w.now.words w.now.actions w.past)
unfolding flush_done bytes_done
called_sound w a x (flush.WritesPart part) bytes true sound got k = elim (truth (nat_lt part.stop part.end)) [
  | inl e ↦ rw e (flush_looks w a x _ _ sound got k)
  | inr e ↦ rw e (flush_looks w a x (flush.Syncs part.end) _ sound got k)
]
called_sound w a x (flush.WritesPart part) bytes false sound got k = flush_looks w a x flush.AtRest _ sound got tt
called_sound w a x (flush.Syncs end) bytes true sound got k = flush_looks w a x (flush.RaisesFlushed end) bytes sound got k
called_sound w a x (flush.Syncs end) bytes false sound got k = flush_looks w a x flush.AtRest bytes sound got tt
called_sound w a x step bytes done sound got k = flush_looks w a x step bytes sound got k

-- a read for a mailbox, made or failed
pub read_sound : (w : GuardWorld) (a : ℕ) (x : Actor) (begin : ℕ) (step : Serving) (bytes : List ℕ) → IsSound w → slice_get w.now.actors a ≡ Some x → Known w a x (Serves begin step)
    → IsSound (after w a (record x { work = Serves begin (serve_read step bytes) }) w.now.words w.now.actions w.past)
unfolding serve_read
read_sound w a x begin (serve.Reads session addr) bytes sound got k = serve_looks w a x begin _ sound got k
read_sound w a x begin step bytes sound got k = serve_looks w a x begin step sound got k
