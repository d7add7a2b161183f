-- The newest finished commit has the number behind as many as were told as finished.
use Rattle.std.proofs.Common.{◌≡◌, inl, inr, ℕ, ◌+◌, ◌≤◌, ◌∙◌, List, [], ◌∷◌, refl, arith, ap, sym, subst, Bool, true, false}
use Rattle.std.specs.Prelude.{⊤, ◌==◌, if◌then◌else◌}
use Rattle.fkv_base.specs.declared.numbers.Version.{Version}
use Rattle.law_refine.specs.Below.fkv_keeper.KeeperTold.TheVariants.{Turned}
use Rattle.law_refine.specs.Below.fkv_keeper.TheKeeping.{Keeping}
use Rattle.law_refine.specs.Below.fkv_keeper.TheKeeping.TheVariants.{Ended, Starts, Maintains, LoadsPhase, Enters, Copies, Seeks, Waits, Writes, Finishes, Sweeps}
use Rattle.law_refine.specs.Below.fkv_keeper.Keeping.{Finality, KeeperState}
use Rattle.law_refine.specs.Below.fkv_world.Past.{Called, KeeperAnswered, TraceEvent, Traced}
use Rattle.law_commit.specs.BegunCommits.{AreInTurn, BegunCommit}
use Rattle.law_commit.specs.HeldCommits.{AreFinished, AtEnd, AtKeeping, HaveFinished}
use Rattle.law_commit.specs.FinishedCommits.{ToldCommit, commits_finished, commits_told, told_of, with_told}
use Rattle.law_commit.specs.ToldPoints.{and_one_finished, at_call_by, finishes_at_call, finishes_told}

-- ---- numbers that come one behind the other
abbrev NextTold : ToldCommit → List ToldCommit → Type 0
NextTold c [] = ⊤
NextTold c (d ∷ before) = c.number.0 ≡ d.number.0 + 1

abbrev AreNext : List ToldCommit → Type 0
AreNext [] = ⊤
AreNext (c ∷ before) = NextTold c before × AreNext before

abbrev HeadIs : ℕ → List ToldCommit → Type 0
HeadIs number [] = ⊥
HeadIs number (c ∷ before) = c.number.0 ≡ number

one_head : (a b : ℕ) (xs : List ToldCommit) → HeadIs a xs → HeadIs b xs → a ≡ b
one_head a b [] one other = absurd one
one_head a b (c ∷ before) one other = sym one ∙ other

next_head : (c : ToldCommit) (number : ℕ) (xs : List ToldCommit) → NextTold c xs → HeadIs number xs → c.number.0 ≡ number + 1
next_head c number [] next head = absurd head
next_head c number (d ∷ before) next head = omega (arith, next, head)

-- ---- of those that have finished
abbrev told_commit : BegunCommit → ToldCommit
told_commit c = record { number = c.number; points = c.points }

finished_head : (c : BegunCommit) (older : List BegunCommit) → c.is_finished ≡ true → HeadIs c.number.0 (commits_finished (c ∷ older))
finished_head c older finished = by_flag c.is_finished finished
  where
    by_flag : (b : Bool) → b ≡ true → HeadIs c.number.0 (if b then told_commit c ∷ commits_finished older else commits_finished older)
    by_flag true same = refl
    by_flag false same = cc

finished_next : (c d : BegunCommit) (older : List BegunCommit) → d.is_finished ≡ true → c.number.0 ≡ d.number.0 + 1 → NextTold (told_commit c) (commits_finished (d ∷ older))
finished_next c d older finished next = by_flag d.is_finished finished
  where
    by_flag : (b : Bool) → b ≡ true → NextTold (told_commit c) (if b then told_commit d ∷ commits_finished older else commits_finished older)
    by_flag true same = next
    by_flag false same = cc

finished_on : (c : BegunCommit) (older : List BegunCommit) → c.is_finished ≡ true → NextTold (told_commit c) (commits_finished older) → AreNext (commits_finished older) → AreNext (commits_finished (c ∷ older))
finished_on c older finished next rest = by_flag c.is_finished finished
  where
    by_flag : (b : Bool) → b ≡ true → AreNext (if b then told_commit c ∷ commits_finished older else commits_finished older)
    by_flag true same = (next, rest)
    by_flag false same = cc

all_next : (begun : List BegunCommit) → AreFinished begun → AreInTurn begun → AreNext (commits_finished begun)
all_next [] all turn = tt
all_next (c ∷ []) all turn = finished_on c [] all.1 tt tt
all_next (c ∷ d ∷ older) all turn = finished_on c (d ∷ older) all.1 (finished_next c d older all.2.1 turn.0) (all_next (d ∷ older) all.2 turn.1)

-- ---- of those that were told
told_event : (event : TraceEvent) (base finishes : ℕ) (before : List ToldCommit) → (AreNext before → HeadIs (base + finishes) before) → AreNext (with_told event before) → HeadIs (base + and_one_finished event finishes) (with_told event before)
told_event (KeeperAnswered (Turned true full) last) base finishes before head next = let up = next_head (told_of last) (base + finishes) before next.0 (head next.1) in omega (arith, up)
told_event event base finishes before head next = head next

told_head : (trace : List Traced) (first : ToldCommit) → AreNext (commits_told trace (first ∷ [])) → HeadIs (first.number.0 + finishes_told trace) (commits_told trace (first ∷ []))
told_head [] first next = omega arith
told_head (it ∷ before) first next = told_event it.its first.number.0 (finishes_told before) (commits_told before (first ∷ [])) (told_head before first) next

same_head : (begun : List BegunCommit) (newest : BegunCommit) (trace : List Traced) (first : ToldCommit) → AreFinished begun → AreInTurn begun → HeadIs newest.number.0 (commits_finished begun) → commits_finished begun ≡ commits_told trace (first ∷ [])
    → newest.number.0 ≡ first.number.0 + finishes_told trace
same_head begun newest trace first all turn head told =
    let next = subst AreNext told (all_next begun all turn) in
    one_head newest.number.0 (first.number.0 + finishes_told trace) (commits_told trace (first ∷ [])) (subst (HeadIs newest.number.0) told head) (told_head trace first next)

-- ---- so of the newest finished one
module _ (trace : List Traced) (first : ToldCommit) where
  abbrev IsCounted : Finality → Type 0
  IsCounted last = last.number.0 ≡ first.number.0 + finishes_told trace

  finished_counts : (begun : List BegunCommit) (last : Finality) → HaveFinished begun last → AreInTurn begun → commits_finished begun ≡ commits_told trace (first ∷ []) → IsCounted last
  finished_counts begun last all turn told =
      let its = all.its in
      let finished : AreFinished (all.newest ∷ all.older) = subst AreFinished its all.finished in
      let head : HeadIs all.newest.number.0 (commits_finished begun) = subst (λ (xs : List BegunCommit). HeadIs all.newest.number.0 (commits_finished xs)) (sym its) (finished_head all.newest all.older finished.1) in
      sym (ap (λ (v : Version). v.0) all.last.number) ∙ same_head begun all.newest trace first all.finished turn head told

  older_counts : (begun older : List BegunCommit) (newest : BegunCommit) (last : Finality) → begun ≡ newest ∷ older → newest.is_finished ≡ false → HaveFinished older last → AreInTurn begun → commits_finished begun ≡ commits_told trace (first ∷ []) → IsCounted last
  older_counts begun older newest last same unfinished all turn told =
      let here : AreInTurn (newest ∷ older) = subst AreInTurn same turn in
      finished_counts older last all here.1 (sym (skips newest.is_finished unfinished) ∙ (ap commits_finished (sym same) ∙ told))
    where
      skips : (b : Bool) → b ≡ false → (if b then told_commit newest ∷ commits_finished older else commits_finished older) ≡ commits_finished older
      skips false it = refl
      skips true it = cc

  end_counts : (begun : List BegunCommit) (s : KeeperState) (broken : Bool) → AtEnd begun s broken → AreInTurn begun → commits_finished begun ≡ commits_told trace (first ∷ []) → IsCounted s.last
  end_counts begun s true (inl all) turn told = finished_counts begun s.last all turn told
  end_counts begun s true (inr one) turn told = older_counts begun one.older one.newest s.last one.its one.unfinished one.others turn told
  end_counts begun s false all turn told = finished_counts begun s.last all turn told

  pub last_counts : (begun : List BegunCommit) (s : KeeperState) (step : Keeping) → AtKeeping begun s step → AreInTurn begun → commits_finished begun ≡ commits_told trace (first ∷ []) → IsCounted s.last
  last_counts begun s Finishes its turn told = older_counts begun its.older its.newest s.last its.its its.unfinished its.others turn told
  last_counts begun s Writes (inl all) turn told = finished_counts begun s.last all turn told
  last_counts begun s Writes (inr one) turn told = older_counts begun one.older one.newest s.last one.its one.unfinished one.others turn told
  last_counts begun s (Ended it) its turn told = end_counts begun s s.is_broken its turn told
  last_counts begun s Starts its turn told = finished_counts begun s.last its turn told
  last_counts begun s Maintains its turn told = finished_counts begun s.last its turn told
  last_counts begun s LoadsPhase its turn told = finished_counts begun s.last its turn told
  last_counts begun s Enters its turn told = finished_counts begun s.last its turn told
  last_counts begun s Copies its turn told = finished_counts begun s.last its turn told
  last_counts begun s Sweeps its turn told = finished_counts begun s.last its turn told
  last_counts begun s Seeks its turn told = finished_counts begun s.last its turn told
  last_counts begun s Waits its turn told = finished_counts begun s.last its turn told

-- ---- no more were told as finished at a call than by now
one_up : (event : TraceEvent) (low high : ℕ) → low ≤ high → low ≤ and_one_finished event high
one_up (KeeperAnswered (Turned true full) last) low high up = omega (arith, up)
one_up event low high up = up

call_low : (session : ℕ) (event : TraceEvent) (now earlier high : ℕ) → now ≤ high → earlier ≤ high → at_call_by session event now earlier ≤ high
call_low session (Called number call) now earlier high one other = by_test (number == session)
  where
    by_test : (b : Bool) → (if b then now else earlier) ≤ high
    by_test true = one
    by_test false = other
call_low session event now earlier high one other = other

pub at_call : (session : ℕ) (trace : List Traced) → finishes_at_call session trace ≤ finishes_told trace
at_call session [] = omega arith
at_call session (it ∷ before) =
    call_low session it.its (finishes_told before) (finishes_at_call session before) (and_one_finished it.its (finishes_told before)) (one_up it.its (finishes_told before) (finishes_told before) (omega arith))
    (one_up it.its (finishes_at_call session before) (finishes_told before) (at_call session before))
