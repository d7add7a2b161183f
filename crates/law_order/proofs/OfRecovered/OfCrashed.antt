-- Where no commit is being written the current one is the newest, and finished. And a new store has no key.
use Rattle.std.proofs.Common.{◌≡◌, ◌≤◌, ◌∙◌, ℕ, zero, suc, inl, inr, arith, ap, refl, sym, subst, Bool, true, false, List, [], ◌∷◌}
use Rattle.std.specs.Prelude.{None, if◌then◌else◌}
use Rattle.law_commit.specs.Below.fkv_keeper.Keeping.{Finality, KeeperState, come_to}
use Rattle.law_commit.specs.Below.fkv_keeper.KeeperTold.{KeeperTold}
use Rattle.law_commit.specs.Below.fkv_keeper.TheKeeping.{Keeping}
use Rattle.law_commit.specs.Below.fkv_keeper.TheKeeping.TheVariants.{Ended, Writes}
use Rattle.law_opening.specs.Below.fkv_opening.TheOpened.{Opened}
use Rattle.law_commit.specs.BegunCommits.{AreInTurn, BegunCommit}
use Rattle.law_commit.specs.HeldCommits.{AreFinished, AtEnd, AtKeeping, HaveFinished, IsAsLast}
use Rattle.law_log.specs.Chains.{Unborn, first_such, has_key, value_at}
use Rattle.law_log.specs.Ghosts.{shown}
use Rattle.law_log.specs.Trace.{IsIn}
use Rattle.law_opening.specs.Log.OpeningLog.{cell_at, chain_down, chain_of, entry_of, logged_at, opening_log}
use Rattle.law_order.proofs.OfRecovered.OfUses.Numbers.{newest_most}

pub all_finished : (begun : List BegunCommit) (s : KeeperState) (told : KeeperTold) → s.rests ≡ false → s.step ≡ Ended told → s.is_broken ≡ false → AtKeeping begun s (come_to s) → HaveFinished begun s.last
all_finished begun s told none ends works at =
    let here : AtKeeping begun s s.step = subst (λ (rests : Bool). AtKeeping begun s (if rests then Writes else s.step)) none at in
    let ended : AtEnd begun s s.is_broken = subst (λ (step : Keeping). AtKeeping begun s step) ends here in
    subst (λ (broken : Bool). AtEnd begun s broken) works ended

pub is_newest : (begun : List BegunCommit) (last : Finality) (c : BegunCommit) → AreInTurn begun → HaveFinished begun last → IsIn c begun → ((d : BegunCommit) → IsIn d begun → d.is_finished ≡ true → d.number.0 ≤ c.number.0) → IsAsLast last c
is_newest begun last c turn has is most =
    let newest : BegunCommit = has.newest in
    let older : List BegunCommit = has.older in
    let there : IsIn c (newest ∷ older) = subst (λ (all : List BegunCommit). IsIn c all) has.its is in
    let in_turn : AreInTurn (newest ∷ older) = subst AreInTurn has.its turn in
    let all : AreFinished (newest ∷ older) = subst AreFinished has.its has.finished in
    let first : IsIn newest begun = subst (λ (x : List BegunCommit). IsIn newest x) (sym has.its) (inl refl) in
    let low = most newest first all.1 in
    elim there [
      | inl same ↦ subst (IsAsLast last) same has.last
      | inr before ↦ let smaller = newest_most newest older c in_turn before in absurd (omega (arith, low, smaller))
    ]

-- ---- a store without entries
down_none : (leads : ℕ → ℕ) (most : ℕ) → chain_down leads most 0 ≡ []
unfolding chain_down
down_none leads zero = refl
down_none leads (suc most) = refl

module _ (bytes : List ℕ) (o : Opened) (none : o.entries.items ≡ []) (unborn : logged_at bytes o 0 ≡ Unborn) where
  no_chain : (h : ℕ) → chain_of bytes o h ≡ []
  unfolding entry_of
  no_chain h = ap (λ entries. chain_down (λ a. let cell = cell_at bytes o a in cell.previous) o.tail.0 (entry_of entries h)) none ∙ down_none (λ a. let cell = cell_at bytes o a in cell.previous) o.tail.0

  pub shows_none : (home : ℕ → ℕ) (key : ℕ) → shown home (opening_log bytes o) key ≡ None
  shows_none home key = ap (λ (chain : List ℕ). value_at (logged_at bytes o (first_such (has_key key) (logged_at bytes o) chain))) (no_chain (home key)) ∙ ap value_at unborn
