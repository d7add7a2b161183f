-- How a try ends, and that none asks for a slot.
use Rattle.std.proofs.Common.{◌≡◌, ℕ, ◌^◌, ◌∙◌, sym, ap, refl, false, List, ◌∷◌}
use Rattle.std.specs.Prelude.{⊤}
use Rattle.fkv_plane.specs.declared.asks.Ask.{Ask}
use Rattle.fkv_plane.specs.declared.asks.Ask.TheVariants.{Put, Take, Done}
use Rattle.fkv_plane.specs.declared.places.Places.{Places}
use Rattle.fkv_plane.specs.Passing.{passed}
use Rattle.law_commit.specs.Below.fkv_ops.TryAnswer.{TryAnswer}
use Rattle.law_commit.specs.Below.fkv_ops.TryAnswer.TheVariants as answer
use Rattle.law_commit.specs.Below.fkv_ops.Occasion.{Occasion}
use Rattle.law_commit.specs.Below.fkv_ops.Bounds.{IsCall}
use Rattle.law_commit.specs.Below.fkv_ops.Request.{Request}
use Rattle.law_commit.specs.Below.fkv_ops.Seen.{Seen}
use Rattle.law_commit.specs.Below.fkv_ops.EachAsk.{AskIsSo}
use Rattle.law_commit.specs.Below.fkv_ops.Reasons.{IsTrue}
use Rattle.law_commit.specs.Below.fkv_ops.Trying.{TryState, try_ask, try_next}
use Rattle.law_commit.specs.Below.fkv_ops.TryRun.{Trial, Told, told_by, trial_begun, try_run}
use Rattle.law_commit.proofs.Below.fkv_ops.Shown.{each_ask, each_is_true}
use Rattle.law_commit.specs.Below.fkv_pending.TheMailing.{Mailing}
use Rattle.law_commit.specs.Below.fkv_pending.TheMailing.TheVariants as mailing
use Rattle.law_commit.specs.Below.fkv_pending.Mailing.{mail_ask}
use Rattle.law_commit.specs.Below.law_world.GuardKeeper.Settled.{is_of_slot}

pub passed_slot : {A B : Type 0} (ask : Ask A) (told : B) → is_of_slot (passed ask told) ≡ is_of_slot ask
unfolding passed
passed_slot (Done inner) told = refl
passed_slot ask told = refl

pub mail_slot : (session : ℕ) (step : Mailing) → is_of_slot (mail_ask session step) ≡ false
unfolding mail_ask
mail_slot session (mailing.Ended its) = refl
mail_slot session step = refl

ask_slot : (c : Trial) (told : Told) (ask : Ask TryAnswer) (reply : ℕ) (effect : _) → AskIsSo c told ask reply effect → is_of_slot ask ≡ false
ask_slot c told (Put slot action) reply effect so = absurd so
ask_slot c told (Take slot) reply effect so = absurd so
ask_slot c told ask reply effect so = refl

-- how it may end
abbrev pub TryEndsSo : Occasion → TryAnswer → Type 0
TryEndsSo occasion answer.IndexFull = IsCall occasion
TryEndsSo occasion answer.LogFull = IsCall occasion
TryEndsSo occasion its = ⊤

true_ends : (c : Trial) (told : Told) (its : TryAnswer) → IsTrue c told its → TryEndsSo c.occasion its
true_ends c told answer.IndexFull so = so.0
true_ends c told answer.LogFull so = so.0
true_ends c told its so = tt

module _ (p : Places) (bits room : ℕ) (buckets : p.buckets ≡ 2 ^ bits) where
  abbrev pub trial_of : Request → Seen → Occasion → Trial
  trial_of request seen occasion = record { places = p; bits = bits; its_buckets = buckets; room = room; request = request; seen = seen; occasion = occasion }

  -- some request's, by what was seen and at this occasion, behind some replies
  pub record IsTryRun (seen : Seen) (occasion : Occasion) (t : TryState) : Type 0 where
    pub request : Request
    pub spare : ℕ
    pub replies : List ℕ
    pub run : t ≡ try_run (trial_of request seen occasion) (trial_begun (trial_of request seen occasion) spare) replies

  pub next_run : (seen : Seen) (occasion : Occasion) (t : TryState) (reply : ℕ) → IsTryRun seen occasion t → IsTryRun seen occasion (try_next p room t reply)
  next_run seen occasion t reply its = record { request = its.request; spare = its.spare; replies = reply ∷ its.replies; run = ap (λ (x : TryState). try_next p room x reply) its.run }

  pub run_ends : (seen : Seen) (occasion : Occasion) (t : TryState) (its : TryAnswer) → IsTryRun seen occasion t → try_ask p t ≡ Done its → TryEndsSo occasion its
  run_ends seen occasion t its is ends =
      let c : Trial = trial_of is.request seen occasion in
      true_ends c (told_by c (trial_begun c is.spare) is.replies) its (each_is_true c is.spare is.replies its (ap (try_ask p) (sym is.run) ∙ ends))

  pub run_slot : (seen : Seen) (occasion : Occasion) (t : TryState) → IsTryRun seen occasion t → is_of_slot (try_ask p t) ≡ false
  run_slot seen occasion t is =
      let c : Trial = trial_of is.request seen occasion in
      ap (λ (x : TryState). is_of_slot (try_ask p x)) is.run ∙ ask_slot c (told_by c (trial_begun c is.spare) is.replies) _ 0 _ (each_ask c is.spare is.replies 0)
