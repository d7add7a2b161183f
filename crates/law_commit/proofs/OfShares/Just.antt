-- What holds of each update that shares, and what of each that is to, holds of it just so.
use Rattle.std.proofs.Common.{List, [], ◌∷◌, subst, Bool}
use Rattle.law_refine.specs.Below.fkv_ops.Request.{Request}
use Rattle.law_refine.specs.Below.fkv_ops.Seen.{Seen}
use Rattle.law_refine.specs.Below.fkv_ops.TheTrying.{Trying}
use Rattle.law_refine.specs.Below.fkv_ops.TheTrying.TheVariants as trying
use Rattle.law_refine.specs.Below.fkv_ops.Trying.{TryState}
use Rattle.law_refine.specs.Below.fkv_pending.TheAttempting.{Attempting}
use Rattle.law_refine.specs.Below.fkv_pending.TheAttempting.TheVariants as attempting
use Rattle.law_refine.specs.Below.fkv_pending.PendingRequest.{PendingRequest}
use Rattle.law_refine.specs.Below.fkv_pending.Attempting.{AttemptState}
use Rattle.law_refine.specs.Below.fkv_session.Sitting.{Sitting}
use Rattle.law_refine.specs.Below.fkv_session.Sitting.TheVariants.{Attempts, Polls}
use Rattle.law_refine.specs.Below.fkv_session.Sessions.{SessionState}
use Rattle.law_commit.specs.Shares.Since.{AllShareJust, AllShareSince, AllShareSo, AttemptSo, InHandSo, ShareOnlySince, SharesJust, SharesOnly, SharesSince, TriesSo, WaitSo}

module _ (P Q R : Request → Bool → Type 0) (each : (request : Request) (shares : Bool) → P request shares → Q request shares → R request shares) where
  both_wait : (requests : List PendingRequest) → WaitSo P requests → WaitSo Q requests → WaitSo R requests
  both_wait [] one other = tt
  both_wait (p ∷ rest) one other = (each p.request p.request.has_latch one.0 other.0, both_wait rest one.1 other.1)

  both_try : (t : TryState) (step : Trying) → TriesSo P t step → TriesSo Q t step → TriesSo R t step
  both_try t trying.TakesShared one other = tt
  both_try t (trying.DropsExclusive its) one other = tt
  both_try t (trying.DropsShared its) one other = tt
  both_try t (trying.Ended its) one other = tt
  both_try t trying.LoadsPhase one other = each t.request t.has_shared one other
  both_try t trying.Walks one other = each t.request t.has_shared one other
  both_try t trying.CountsTaken one other = each t.request t.has_shared one other
  both_try t (trying.LoadsSafe addr version) one other = each t.request t.has_shared one other
  both_try t (trying.SwapsValue addr) one other = each t.request t.has_shared one other
  both_try t (trying.LoadsCurrent addr) one other = each t.request t.has_shared one other
  both_try t (trying.ChangesValue addr old) one other = each t.request t.has_shared one other
  both_try t trying.LoadsAnswer one other = each t.request t.has_shared one other
  both_try t (trying.TakesExclusive old) one other = each t.request t.has_shared one other
  both_try t trying.LoadsOld one other = each t.request t.has_shared one other
  both_try t (trying.Appends its) one other = each t.request t.has_shared one other
  both_try t (trying.LoadsTail waiting) one other = each t.request t.has_shared one other
  both_try t (trying.LoadsTaken waiting) one other = each t.request t.has_shared one other

  both_attempt : (a : AttemptState) (step : Attempting) → AttemptSo P a step → AttemptSo Q a step → AttemptSo R a step
  both_attempt a attempting.Tries one other = both_try a.trial a.trial.step one other
  both_attempt a (attempting.Ended its) one other = tt
  both_attempt a attempting.Looks one other = each a.pending.request a.pending.request.has_latch one other
  both_attempt a attempting.Puts one other = each a.pending.request a.pending.request.has_latch one other

  both_hand : (s : SessionState) (step : Sitting) → InHandSo P s step → InHandSo Q s step → InHandSo R s step
  both_hand s (Attempts has_shifted) one other = both_attempt s.attempt s.attempt.step one other
  both_hand s (Polls index) one other = both_attempt s.attempt s.attempt.step one other
  both_hand s step one other = tt

  both_so : (s : SessionState) → AllShareSo P s → AllShareSo Q s → AllShareSo R s
  both_so s one other = record { waiting = both_wait _ one.waiting other.waiting; in_hand = both_hand s s.step one.in_hand other.in_hand }

pub all_share_just : ShareOnlySince → AllShareSince → AllShareJust
all_share_just only since opening start events session first its guarded held opens became none same =
    both_so (SharesOnly its.seen) (SharesSince its.seen) (SharesJust its.seen) (λ request shares one other updates. (λ has. one updates has, λ prepared. other updates prepared)) its
    (subst (λ (seen : Seen). AllShareSo (SharesOnly seen) its) same (only opening start events session first its guarded opens became)) (since opening start events session first its guarded held opens became none)
