-- How a refresh goes, of a session of which no request waits.
use Rattle.std.proofs.Common.{◌≡◌, ℕ, refl, sym, ap, ◌∙◌, arith, Bool, true, false, List, [], ◌∷◌, length}
use Rattle.std.proofs.lemmas.Bool.Decides.{nat_tests}
use Rattle.std.specs.Prelude.{if◌then◌else◌, ◌==◌}
use Rattle.fkv_epoch.specs.declared.refreshing.Refreshing.TheVariants as refresh
use Rattle.fkv_epoch.specs.Refreshing.{refresh_ask, refresh_finish, refresh_next}
use Rattle.fkv_epoch.specs.declared.values.Seen as loaded
use Rattle.fkv_epoch.specs.Values.{seen}
use Rattle.fkv_map.specs.declared.operations.Call.TheVariants as call
use Rattle.fkv_ops.specs.declared.requests.Seen.{Seen}
use Rattle.fkv_pending.specs.declared.pending_requests.PendingRequest.{PendingRequest}
use Rattle.fkv_plane.specs.declared.asks.Ask.{Ask}
use Rattle.fkv_plane.specs.declared.asks.Ask.TheVariants.{Load, Store, Done}
use Rattle.fkv_plane.specs.declared.places.SessionWord.TheVariants as own
use Rattle.fkv_plane.specs.declared.places.SharedWord.TheVariants as one
use Rattle.fkv_plane.specs.Passing.{passed}
use Rattle.fkv_plane.specs.Places.{session_place, shared_place}
use Rattle.fkv_session.specs.declared.answers.Told.{Told}
use Rattle.fkv_session.specs.declared.answers.Told.TheVariants as told
use Rattle.fkv_session.specs.declared.catching_up.Catching.TheVariants.{Finishes, Refreshes, StoresCut, StoresOwing}
use Rattle.fkv_session.specs.declared.sessions.Sitting.TheVariants.{Idle}
use Rattle.fkv_session.specs.Alike.{lasting}
use Rattle.fkv_session.specs.CatchingUp.{catching_ask, catching_next, catching_requests, cut_at, cut_of, enters_prepare, finish_ledto, refresh_ended, refresh_ledto, seen_after, version_before}
use Rattle.fkv_session.specs.Sessions.{Seat, SessionState, asks_after, bits_of, catch_ledto, is_busy, is_word_ask, refresh_call, refreshed, session_ask, sitting_ask, sitting_next}
use Rattle.fkv_words.specs.declared.phase_words.PhaseSaid.{PhaseSaid}
use Rattle.fkv_words.specs.PhaseWords.{phase_said}
use Rattle.fkv_straight.specs.Refreshes.{Catches, HasSeen, IsAtCut, IsAtEpoch, IsAtOwing, catching_at, loading, storing}
use Rattle.fkv_straight.specs.Standing.{IsCaughtUp, asked, begins, leads}

-- ---- it begins
free_is : (s : SessionState) → s.requests ≡ [] → record s { requests = [] } ≡ s
free_is s e = λ i. record s { requests = sym e i }

begun_free : (k : Seat) (s : SessionState) → s.is_awake ≡ true → begins k (record s { requests = [] }) call.Refresh ≡ catching_at s 0 (loading s refresh.LoadsEpoch)
unfolding begins refresh_call
begun_free k s awake = rw awake refl

pub begun : (k : Seat) (s : SessionState) → s.is_awake ≡ true → s.requests ≡ [] → Catches s (loading s refresh.LoadsEpoch) (begins k s call.Refresh)
unfolding Catches
begun k s awake free = (0, ap (λ (x : SessionState). begins k x call.Refresh) (sym (free_is s free)) ∙ begun_free k s awake)

-- ---- it loads
pub epoch_asks : (k : Seat) (s u : SessionState) → Catches s (loading s refresh.LoadsEpoch) u → asked k u ≡ Load (shared_place one.Epoch)
unfolding Catches asked sitting_ask catching_ask refresh_ask passed
epoch_asks k s u at = rw at.1 refl

pub epoch_comes : (k : Seat) (s u v : SessionState) (epoch : ℕ) → Catches s (loading s refresh.LoadsEpoch) u → v ≡ leads k u epoch → Catches s (loading s (refresh.LoadsPhase epoch)) v
unfolding Catches leads sitting_next catch_ledto catching_next catching_requests refresh_ledto catching_ask refresh_next refresh_ask passed
epoch_comes k s u v epoch at e = (asks_after at.0 (is_word_ask (session_ask k (catching_at s at.0 (loading s refresh.LoadsEpoch)))), e ∙ rw at.1 refl)

pub phase_asks : (k : Seat) (s u : SessionState) (epoch : ℕ) → Catches s (loading s (refresh.LoadsPhase epoch)) u → asked k u ≡ Load (shared_place one.Phase)
unfolding Catches asked sitting_ask catching_ask refresh_ask passed
phase_asks k s u epoch at = rw at.1 refl

pub phase_comes : (k : Seat) (s u v : SessionState) (epoch phase : ℕ) → Catches s (loading s (refresh.LoadsPhase epoch)) u → v ≡ leads k u phase → Catches s (loading s (refresh.LoadsReadOnly epoch phase)) v
unfolding Catches leads sitting_next catch_ledto catching_next catching_requests refresh_ledto catching_ask refresh_next refresh_ask passed
phase_comes k s u v epoch phase at e = (asks_after at.0 (is_word_ask (session_ask k (catching_at s at.0 (loading s (refresh.LoadsPhase epoch))))), e ∙ rw at.1 refl)

pub read_only_asks : (k : Seat) (s u : SessionState) (epoch phase : ℕ) → Catches s (loading s (refresh.LoadsReadOnly epoch phase)) u → asked k u ≡ Load (shared_place one.ReadOnly)
unfolding Catches asked sitting_ask catching_ask refresh_ask passed
read_only_asks k s u epoch phase at = rw at.1 refl

pub read_only_comes : (k : Seat) (s u v : SessionState) (epoch phase read_only : ℕ) → Catches s (loading s (refresh.LoadsReadOnly epoch phase)) u → v ≡ leads k u read_only → Catches s (loading s (refresh.LoadsHead epoch phase read_only)) v
unfolding Catches leads sitting_next catch_ledto catching_next catching_requests refresh_ledto catching_ask refresh_next refresh_ask passed
read_only_comes k s u v epoch phase read_only at e =
    (asks_after at.0 (is_word_ask (session_ask k (catching_at s at.0 (loading s (refresh.LoadsReadOnly epoch phase))))), e ∙ rw at.1 refl)

pub head_asks : (k : Seat) (s u : SessionState) (epoch phase read_only : ℕ) → Catches s (loading s (refresh.LoadsHead epoch phase read_only)) u → asked k u ≡ Load (shared_place one.Head)
unfolding Catches asked sitting_ask catching_ask refresh_ask passed
head_asks k s u epoch phase read_only at = rw at.1 refl

-- ---- it takes up what it has seen
either_way : {A : Type 0} (b : Bool) (x : A) → (if b then x else x) ≡ x
either_way true x = refl
either_way false x = refl

head_next : (k : Seat) (s : SessionState) (epoch phase read_only head : ℕ) (after : Seen) → after ≡ seen_after s.seen (seen phase read_only head) (phase_said phase) → (s.seen.version.0 == after.version.0) ≡ true
    → catching_next k.places (bits_of k) k.number (loading s (refresh.LoadsHead epoch phase read_only)) [] Refreshes head ≡ storing s after (refresh.StoresEpoch epoch) Finishes
unfolding catching_next refresh_ledto refresh_next refresh_ask refresh_finish
head_next k s epoch phase read_only head after its same = rw (← its, same) (either_way _ _)

pub seen_same : (k : Seat) (s u : SessionState) (epoch : ℕ) (after : Seen) → HasSeen k s epoch after u → (s.seen.version.0 == after.version.0) ≡ true → IsAtEpoch s epoch after u
unfolding HasSeen IsAtEpoch Catches leads sitting_next catch_ledto catching_requests catching_ask refresh_ask passed
seen_same k s u epoch after (phase, read_only, head, w, at, e, its) same = (
  asks_after at.0 (is_word_ask (session_ask k (catching_at s at.0 (loading s (refresh.LoadsHead epoch phase read_only))))),
  e ∙ rw (at.1, head_next k s epoch phase read_only head after its same) refl,
)

head_cut : (k : Seat) (s : SessionState) (epoch phase read_only head : ℕ) (after : Seen) → after ≡ seen_after s.seen (seen phase read_only head) (phase_said phase) → (s.seen.version.0 == after.version.0) ≡ false
    → catching_next k.places (bits_of k) k.number (loading s (refresh.LoadsHead epoch phase read_only)) [] Refreshes head ≡ storing s after (refresh.HasLoaded epoch (seen phase read_only head)) StoresCut
unfolding catching_next refresh_ledto refresh_next refresh_ask
head_cut k s epoch phase read_only head after its other = rw (← its, other) refl

pub seen_other : (k : Seat) (s u : SessionState) (epoch : ℕ) (after : Seen) → HasSeen k s epoch after u → (s.seen.version.0 == after.version.0) ≡ false → IsAtCut s epoch after u
unfolding HasSeen IsAtCut Catches leads sitting_next catch_ledto catching_requests catching_ask refresh_ask passed
seen_other k s u epoch after (phase, read_only, head, w, at, e, its) other = (
  seen phase read_only head,
  (
    asks_after at.0 (is_word_ask (session_ask k (catching_at s at.0 (loading s (refresh.LoadsHead epoch phase read_only))))),
    e ∙ rw (at.1, head_cut k s epoch phase read_only head after its other) refl,
  ),
)

-- ---- it stores where the version before ends
pub cut_asks : (k : Seat) (s u : SessionState) (epoch : ℕ) (after : Seen) → IsAtCut s epoch after u → asked k u ≡ Store (session_place k.number (cut_of (version_before after).0)) (cut_at s.serial (version_before after).0)
unfolding IsAtCut Catches asked sitting_ask catching_ask passed
cut_asks k s u epoch after at = rw at.1.1 refl

pub cut_comes : (k : Seat) (s u v : SessionState) (epoch reply : ℕ) (after : Seen) → IsAtCut s epoch after u → v ≡ leads k u reply → IsAtOwing s epoch after v
unfolding IsAtCut IsAtOwing Catches leads sitting_next catch_ledto catching_next catching_requests catching_ask passed
cut_comes k s u v epoch reply after at e = (at.0, (asks_after at.1.0 (is_word_ask (session_ask k (catching_at s at.1.0 (storing s after (refresh.HasLoaded epoch at.0) StoresCut)))), e ∙ rw at.1.1 refl))

pub owing_asks : (k : Seat) (s u : SessionState) (epoch : ℕ) (after : Seen) → IsAtOwing s epoch after u → asked k u ≡ Store (session_place k.number own.Owing) 0
unfolding IsAtOwing Catches asked sitting_ask catching_ask passed
owing_asks k s u epoch after at = rw at.1.1 refl

owing_next : (k : Seat) (s : SessionState) (epoch reply : ℕ) (after : Seen) (values : loaded.Seen)
    → catching_next k.places (bits_of k) k.number (storing s after (refresh.HasLoaded epoch values) StoresOwing) [] StoresOwing reply ≡ storing s after (refresh.StoresEpoch epoch) Finishes
unfolding catching_next refresh_finish
owing_next k s epoch reply after values = either_way (enters_prepare s.seen after) (storing s after (refresh.StoresEpoch epoch) Finishes)

pub owing_comes : (k : Seat) (s u v : SessionState) (epoch reply : ℕ) (after : Seen) → IsAtOwing s epoch after u → v ≡ leads k u reply → IsAtEpoch s epoch after v
unfolding IsAtOwing IsAtEpoch Catches leads sitting_next catch_ledto catching_requests catching_ask refresh_ask passed
owing_comes k s u v epoch reply after at e = (
  asks_after at.1.0 (is_word_ask (session_ask k (catching_at s at.1.0 (storing s after (refresh.HasLoaded epoch at.0) StoresOwing)))),
  e ∙ rw (at.1.1, owing_next k s epoch reply after at.0) refl,
)

-- ---- it stores its epoch, and is through
pub last_asks : (k : Seat) (s u : SessionState) (epoch : ℕ) (after : Seen) → IsAtEpoch s epoch after u → asked k u ≡ Store (session_place k.number own.Epoch) epoch
unfolding IsAtEpoch Catches asked sitting_ask catching_ask refresh_ask passed
last_asks k s u epoch after at = rw at.1 refl

-- it has refreshed
pub record HasRefreshed (s : SessionState) (after : Seen) (v : SessionState) : Type 0 where
  pub ended : v.step ≡ Idle (told.Refreshed after.phase after.version)
  pub lasts : lasting v ≡ lasting (refreshed (record s { requests = [] }) after)

pub last_comes : (k : Seat) (s u v : SessionState) (epoch reply : ℕ) (after : Seen) → IsAtEpoch s epoch after u → v ≡ leads k u reply → HasRefreshed s after v
unfolding IsAtEpoch Catches leads sitting_next catch_ledto catching_next catching_requests finish_ledto catching_ask refresh_next refresh_ask passed lasting
last_comes k s u v epoch reply after at e = record {
  ended = rw (e, at.1) refl;
  lasts = rw (e, at.1) refl;
}

-- ---- the machine goes by what was loaded
refreshed_lasts : (m s : SessionState) (after : Seen) → lasting m ≡ lasting s → m.requests ≡ [] → lasting (refreshed m after) ≡ lasting (refreshed (record s { requests = [] }) after)
unfolding lasting
refreshed_lasts m s after alike free =
    λ i. record {
      seen = after;
      serial = (alike i).serial;
      ticket = (alike i).ticket;
      floor = (alike i).floor;
      requests = free i;
      is_orphaned = (alike i).is_orphaned;
      spare = (alike i).spare;
      is_awake = (alike i).is_awake;
      finished = (alike i).finished;
      catching = refresh_ended (alike i).catching (alike i).seen after (alike i).serial;
      mailing = (alike i).mailing;
      leaving = (alike i).leaving;
      own_turn = (alike i).own_turn;
    }

pub refreshed_caught_up : (m n s v : SessionState) (after : Seen) → lasting m ≡ lasting s → m.requests ≡ [] → n ≡ refreshed m after → HasRefreshed s after v → IsCaughtUp n v
refreshed_caught_up m n s v after alike free e has = record {
  lasts = ap lasting e ∙ (refreshed_lasts m s after alike free ∙ sym has.lasts);
  alike = λ busy. absurd (let h : false ≡ true = sym (ap is_busy has.ended) ∙ busy in cc h);
}

pub refreshed_asks : (k : Seat) (s v : SessionState) (after : Seen) → HasRefreshed s after v → Done (told.Refreshed after.phase after.version) ≡ session_ask k v
unfolding sitting_ask
refreshed_asks k s v after has = rw has.ended refl

-- ---- what a machine shows of itself is so of where the line stands
pub seen_alike : (m s : SessionState) → lasting m ≡ lasting s → s.seen ≡ m.seen
unfolding lasting
seen_alike m s alike = λ i. (sym alike i).seen

pub awake_alike : (m s : SessionState) → lasting m ≡ lasting s → m.is_awake ≡ true → s.is_awake ≡ true
unfolding lasting
awake_alike m s alike awake = (λ i. (sym alike i).is_awake) ∙ awake

pub free_alike : (m s : SessionState) → lasting m ≡ lasting s → m.requests ≡ [] → s.requests ≡ []
unfolding lasting
free_alike m s alike free = (λ i. (sym alike i).requests) ∙ free

pub serial_alike : (m s : SessionState) → lasting m ≡ lasting s → m.serial ≡ s.serial
unfolding lasting
serial_alike m s alike = λ i. (alike i).serial

pub none_left : (requests : List PendingRequest) → length requests ≡ 0 → requests ≡ []
none_left [] e = refl
none_left (x ∷ xs) e = absurd (cc e)

-- ---- what a line of the same seat is asked for, and where it is led
pub asks_here : (k q : Seat) (u : SessionState) (ask : Ask Told) → q ≡ k → asked k u ≡ ask → asked q u ≡ ask
asks_here k q u ask same e = ap (λ (x : Seat). asked x u) same ∙ e

pub leads_here : (k q : Seat) (u v : SessionState) (reply : ℕ) → q ≡ k → v ≡ leads q u reply → v ≡ leads k u reply
leads_here k q u v reply same e = e ∙ ap (λ (x : Seat). leads x u reply) same

pub was_seen : (k : Seat) (s w x : SessionState) (epoch phase read_only head : ℕ) (before after : Seen) → Catches s (loading s (refresh.LoadsHead epoch phase read_only)) w → x ≡ leads k w head → s.seen ≡ before
    → (said : PhaseSaid) → said ≡ phase_said phase → after ≡ seen_after before (seen phase read_only head) said → HasSeen k s epoch after x
unfolding HasSeen
was_seen k s w x epoch phase read_only head before after at e its said says a =
    (phase, read_only, head, w, at, e, a ∙ (λ i. seen_after (sym its i) (seen phase read_only head) (says i)))

-- ---- whether the version has changed
pub same_version : (s : SessionState) (before after : Seen) → s.seen ≡ before → after.version.0 ≡ before.version.0 → (s.seen.version.0 == after.version.0) ≡ true
same_version s before after its same = let e : s.seen.version.0 ≡ after.version.0 = ap (λ (x : Seen). x.version.0) its ∙ sym same in grind (arith, nat_tests, e)

pub other_version : (s : SessionState) (before after : Seen) → s.seen ≡ before → ¬ (after.version.0 ≡ before.version.0) → (s.seen.version.0 == after.version.0) ≡ false
other_version s before after its other = let e : s.seen.version.0 ≡ before.version.0 = ap (λ (x : Seen). x.version.0) its in grind (arith, nat_tests, e, other)
