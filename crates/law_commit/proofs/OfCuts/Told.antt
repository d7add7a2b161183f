-- What a session has stored last in its cut words and its owing word stands there.
use Rattle.std.proofs.Common.{◌≡◌, inl, inr, ℕ, ◌∙◌, refl, sym, subst, Bool, true, false}
use Rattle.std.specs.Prelude.{◌==◌, ◌%◌, if◌then◌else◌}
use Rattle.fkv_plane.specs.declared.places.SessionWord.TheVariants as own
use Rattle.fkv_plane.specs.Places.{session_place}
use Rattle.law_refine.specs.Below.fkv_session.CatchingUp.{cut_of, version_before}
use Rattle.law_refine.specs.Below.fkv_session.InOrder.{AreToldInOrder, HasTold, TellsCut, TellsOwing, IsOwedOrOneMore, owing_place, owing_told, taken_up}
use Rattle.law_refine.specs.Below.fkv_session.Sessions.{SessionState, Seat}
use Rattle.law_refine.specs.Below.fkv_session.Words.{AreMarksTold, IsCutAsleep, IsMark}

pub cut_mark : (number version : ℕ) → IsMark number (session_place number (cut_of version))
cut_mark number version = by_parity (version % 2 == 0)
  where
    by_parity : (even : Bool) → IsMark number (session_place number (if even then own.EvenCut else own.OddCut))
    by_parity true = inl refl
    by_parity false = inr (inl refl)

pub owing_mark : (number : ℕ) → IsMark number (session_place number own.Owing)
owing_mark number = inr (inr refl)

-- where these words are those at its marks
module _ (k : Seat) (s : SessionState) (words stored : ℕ → ℕ) (same : (place : ℕ) → IsMark k.number place → words place ≡ stored place) where
  pub marks_told : (serial : ℕ) → AreMarksTold k s stored serial → AreMarksTold k s words serial
  marks_told serial its = record { cut = same _ (cut_mark k.number (version_before s.seen).0) ∙ its.cut; owing = same _ (owing_mark k.number) ∙ its.owing }

  pub cut_asleep : IsCutAsleep k s stored → IsCutAsleep k s words
  cut_asleep its = same _ (cut_mark k.number s.seen.version.0) ∙ its

  pub told_in_order : (serial : ℕ) → AreToldInOrder k s stored serial → AreToldInOrder k s words serial
  told_in_order serial (TellsCut asks) = TellsCut asks
  told_in_order serial (TellsOwing cut asks) = TellsOwing (same _ (cut_mark k.number (version_before (taken_up s)).0) ∙ cut) asks
  told_in_order serial (HasTold cut owing) = HasTold (same _ (cut_mark k.number (version_before (taken_up s)).0) ∙ cut) (same _ (owing_mark k.number) ∙ owing)

  pub owed_near : IsOwedOrOneMore (stored (owing_place k)) (owing_told s) → IsOwedOrOneMore (words (owing_place k)) (owing_told s)
  owed_near its = subst (λ (word : ℕ). IsOwedOrOneMore word (owing_told s)) (sym (same (owing_place k) (owing_mark k.number))) its
