-- How a start goes on that has begun, over the replies that it was given.
use Rattle.std.proofs.Common.{◌≡◌, ℕ, refl, ap, sym, subst, ◌∙◌, List, Bool, true, false}
use Rattle.std.specs.Prelude.{⊤, [], ◌∷◌, Option, Some, nat_le, if◌then◌else◌}
use Rattle.fkv_base.specs.declared.commits.CommitKind.{CommitKind}
use Rattle.fkv_base.specs.declared.faults.Fault.{Fault}
use Rattle.fkv_base.specs.declared.numbers.Addr.{Addr}
use Rattle.fkv_base.specs.declared.numbers.Version.{Version}
use Rattle.fkv_base.specs.declared.phases.Phase.TheVariants as phase
use Rattle.fkv_words.specs.declared.phase_words.PhaseSaid.{PhaseSaid}
use Rattle.fkv_words.specs.declared.phase_words.PhaseSaid.TheVariants.{Says}
use Rattle.fkv_words.specs.PhaseWords.{phase_said}
use Rattle.fkv_plane.specs.declared.asks.Ask.{Ask}
use Rattle.fkv_plane.specs.declared.asks.Ask.TheVariants.{Done}
use Rattle.fkv_plane.specs.Passing.{passed, is_done}
use Rattle.fkv_commit.proofs.Shown.{starts_end}
use Rattle.fkv_commit.specs.declared.deferring.DeferAnswer.{DeferAnswer}
use Rattle.fkv_commit.specs.declared.deferring.Deferred.TheVariants.{EntersPhase}
use Rattle.fkv_commit.specs.declared.starting.StartAnswer.{StartAnswer}
use Rattle.fkv_commit.specs.declared.starting.StartAnswer.TheVariants as answer
use Rattle.fkv_commit.specs.declared.starting.StartAsked.{StartAsked}
use Rattle.fkv_commit.specs.declared.starting.Starting.{Starting}
use Rattle.fkv_commit.specs.declared.starting.Starting.TheVariants as starts
use Rattle.fkv_commit.specs.Commits.{version_after}
use Rattle.fkv_commit.specs.Deferring.{defer_ask, defer_next}
use Rattle.fkv_commit.specs.Exchanges.{AreIdle, Exchange, exchanged, exchanges, run_of}
use Rattle.fkv_commit.specs.Phases.{IsRefusalTrue, IsStartEnd, start_told, started}
use Rattle.fkv_base.specs.Limits.{last_of}
use Rattle.fkv_commit.specs.Starting.{StartState, defer_led, is_lost_full, phase_found, seek_led, start_ask, start_begun, start_next, starting_ask, starting_next}
use Rattle.law_causes.specs.Causes.{IsShown}
use Rattle.law_causes.proofs.OfCauses.Asking.{not_done, passed_on}
use Rattle.law_causes.proofs.OfCauses.Deferring.{DeferLed, Defers, DefersOn, GoesOn, HasArmed, HasHeld, HasNoSlot, HasSpent, Holds, SeekLed, Seeks, begins, defers_asks, defers_on, holds_on, seeks_asks, seeks_on}

-- ---- its deferral is where its step wants it
abbrev pub IsOn : StartState → Starting → Type 0
IsOn s (starts.Seeks number) = Seeks s.defer
IsOn s (starts.StoresPrepare number) = Holds s.defer
IsOn s (starts.LoadsTail number) = Holds s.defer
IsOn s (starts.Defers number first) = Defers s.defer
IsOn s step = ⊤

abbrev pub IsOnNow : StartState → Type 0
IsOnNow s = IsOn s s.step

at : (s : StartState) (step : Starting) → s.step ≡ step → IsOn s step → IsOnNow s
at s step e is = subst (λ (x : Starting). IsOn s x) (sym e) is

one_of : (b : Bool) (x y : StartState) → IsOnNow x → IsOnNow y → IsOnNow (if b then x else y)
one_of true x y one other = one
one_of false x y one other = other

found : (s : StartState) (said : PhaseSaid) → IsOnNow (phase_found s said)
found s (Says phase.Rest number) = one_of (nat_le (last_of s.asked.class) number.0) _ _ tt (one_of (is_lost_full s.asked number.0) _ _ tt (begins s.defer))
found s said = tt

seek_still : (number : Version) (s : StartState) (ask : Ask DeferAnswer) → is_done ask ≡ false → seek_led number s ask ≡ s
unfolding seek_led
seek_still number s (Done its) e = cc
seek_still number s ask e = refl

sought : (number : Version) (s : StartState) → s.step ≡ starts.Seeks number → SeekLed s.defer → IsOnNow (seek_led number s (defer_ask s.defer))
unfolding seek_led
sought number s e (GoesOn is) = subst IsOnNow (sym (seek_still number s (defer_ask s.defer) (seeks_asks s.defer is))) (at s (starts.Seeks number) e is)
sought number s e (HasHeld asks is) = rw asks is
sought number s e (HasNoSlot asks) = rw asks tt
sought number s e (HasSpent asks) = rw asks tt

defer_still : (number : Version) (first : Addr) (s : StartState) (ask : Ask DeferAnswer) → is_done ask ≡ false → defer_led number first s ask ≡ s
unfolding defer_led
defer_still number first s (Done its) e = cc
defer_still number first s ask e = refl

put_off : (number : Version) (first : Addr) (s : StartState) → s.step ≡ starts.Defers number first → DeferLed s.defer → IsOnNow (defer_led number first s (defer_ask s.defer))
unfolding defer_led
put_off number first s e (DefersOn is) = subst IsOnNow (sym (defer_still number first s (defer_ask s.defer) (defers_asks s.defer is))) (at s (starts.Defers number first) e is)
put_off number first s e (HasArmed epoch asks) = rw asks tt

next_at : (s : StartState) (step : Starting) (reply : ℕ) → s.step ≡ step → IsOn s step → IsOnNow (starting_next s step reply)
unfolding starting_next
next_at s (starts.Ended its) reply e is = at s (starts.Ended its) e tt
next_at s starts.LoadsPhase reply e is = found s (phase_said reply)
next_at s (starts.Seeks number) reply e is = sought number (record s { defer = defer_next s.defer reply }) e (seeks_on s.defer reply is)
next_at s (starts.StoresPrepare number) reply e is = is
next_at s (starts.LoadsTail number) reply e is = holds_on s.defer (EntersPhase phase.InProgress (version_after number)) is
next_at s (starts.Defers number first) reply e is = put_off number first (record s { defer = defer_next s.defer reply }) e (defers_on s.defer reply is)

next_on : (s : StartState) (reply : ℕ) → IsOnNow s → IsOnNow (start_next s reply)
next_on s reply is = next_at s s.step reply refl is

-- so it tells an answer at its end alone
ends_at : (s : StartState) (step : Starting) (its : StartAnswer) → IsOn s step → starting_ask s step ≡ Done its → step ≡ starts.Ended its
unfolding starting_ask
ends_at s (starts.Ended it) its is e = let same : it ≡ its = cc in ap (λ (x : StartAnswer). starts.Ended x) same
ends_at s starts.LoadsPhase its is e = cc
ends_at s (starts.Seeks number) its is e = absurd (not_done (passed (defer_ask s.defer) answer.Idle) its (passed_on (defer_ask s.defer) answer.Idle (seeks_asks s.defer is)) e)
ends_at s (starts.StoresPrepare number) its is e = cc
ends_at s (starts.LoadsTail number) its is e = cc
ends_at s (starts.Defers number first) its is e = absurd (not_done (passed (defer_ask s.defer) answer.Idle) its (passed_on (defer_ask s.defer) answer.Idle (defers_asks s.defer is)) e)

-- ---- a start that was asked for, over the replies so far
pub record StartKnows (asked : Option CommitKind) (so : CommitKind → StartAsked) (s : StartState) (told : List Exchange) : Type 0 where
  pub opening : StartState
  pub kind : CommitKind
  pub its_kind : asked ≡ Some kind
  pub replies : List ℕ
  pub is : s ≡ started opening (so kind) replies
  pub its : told ≡ start_told opening (so kind) replies
  pub on : IsOnNow s

pub start_begins : (s : StartState) (kind : CommitKind) (so : CommitKind → StartAsked) → StartKnows (Some kind) so (start_begun s (so kind)) []
unfolding run_of exchanges
start_begins s kind so = record { opening = s; kind = kind; its_kind = refl; replies = []; is = refl; its = refl; on = tt }

pub start_replied : (asked : Option CommitKind) (so : CommitKind → StartAsked) (s : StartState) (told : List Exchange) (reply : ℕ) → StartKnows asked so s told → StartKnows asked so (start_next s reply) (exchanged (start_ask s) reply told)
unfolding run_of exchanges
start_replied asked so s told reply knows = record {
  opening = knows.opening;
  kind = knows.kind;
  its_kind = knows.its_kind;
  replies = reply ∷ knows.replies;
  is = ap (λ (x : StartState). start_next x reply) knows.is;
  its = ap (λ (x : StartState). exchanged (start_ask x) reply told) knows.is ∙ ap (λ (x : List Exchange). exchanged (start_ask (started knows.opening (so knows.kind) knows.replies)) reply x) knows.its;
  on = next_on s reply knows.on;
}

ended : (asked : Option CommitKind) (so : CommitKind → StartAsked) (s : StartState) (told : List Exchange) (its : StartAnswer) (knows : StartKnows asked so s told) → start_ask s ≡ Done its → IsStartEnd (so knows.kind) its told
ended asked so s told its knows e =
    let at : (started knows.opening (so knows.kind) knows.replies).step ≡ starts.Ended its = sym (ap (λ (x : StartState). x.step) knows.is) ∙ ends_at s s.step its knows.on e in
    subst (λ (x : List Exchange). IsStartEnd (so knows.kind) its x) (sym knows.its) (starts_end knows.opening (so knows.kind) knows.replies its at)

pub start_refused : (asked : Option CommitKind) (so : CommitKind → StartAsked) (s : StartState) (told : List Exchange) (why : Fault) → StartKnows asked so s told → start_ask s ≡ Done (answer.Refused why) → IsShown asked so why told
start_refused asked so s told why knows e =
    let end : AreIdle told × IsRefusalTrue (so knows.kind) why told = ended asked so s told (answer.Refused why) knows e in
    record { kind = knows.kind; its_kind = knows.its_kind; idle = end.0; shown = end.1 }

pub start_not_idle : (asked : Option CommitKind) (so : CommitKind → StartAsked) (s : StartState) (told : List Exchange) → StartKnows asked so s told → start_ask s ≡ Done answer.Idle → ⊥
start_not_idle asked so s told knows e = ended asked so s told answer.Idle knows e
