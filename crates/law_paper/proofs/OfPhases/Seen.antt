-- Each enabled event of a run of phases keeps what views show; and the floor of each view by the stage.
use Rattle.std.proofs.Common.{◌≡◌, ◌≢◌, ◌⊎◌, inl, inr, ℕ, ◌<◌, ◌≤◌, Bool, true, false, List, [], ◌∷◌, refl, sym, ap, subst, ◌∙◌, arith}
use Rattle.law_log.proofs.Shown.{at_one, set_there, set_else}
use Rattle.law_log.specs.Ghosts.{set_at}
use Rattle.law_paper.specs.Phases.{View, Phasing, PhaseEvent, Prepares, WaitsFlush, Rests, RaisesProgress, RaisesPending, RaisesEnding, StoresNext, RaisesElse, IsSafe, Reserves, Loads, Completes, Leaves, Sessions, rank_of, view_now, phase_after, phase_run, IsEnabled, AreEnabled, IsStaged, rests, prepares, defers, goes_on, enters, pends, flushes, AreRaised, Sees, IsSound, HasFloor, HaveFloor}

-- where a function changed at one place has P, the old one does elsewhere, or it is that place
at_either : {X : Type 0} → (P : X → Type 0) (f : ℕ → X) (i : ℕ) (x : X) (j : ℕ) → P (set_at f i x j) → ((j ≢ i) × P (f j)) ⊎ ((j ≡ i) × P x)
at_either P f i x j its = elim (at_one f i x j) [
  | inl here ↦ inr (here.0, subst P here.1 its)
  | inr else ↦ inl (else.0, subst P else.1 its)
]

there : {X : Type 0} → (f : ℕ → X) (i : ℕ) (x : X) (j : ℕ) → j ≡ i → set_at f i x j ≡ x
there f i x j same = ap (set_at f i x) same ∙ set_there f i x

-- ---- what a stage says of raises
module _ (p : Phasing) where
  stage_progress : IsStaged p → 0 < p.raises.progress → 1 ≤ p.stage
  stage_progress (rests a b c d e) some = omega (arith, b, some)
  stage_progress (prepares a b c d e) some = omega (arith, b, some)
  stage_progress (defers a b c d e f) some = omega (arith, a)
  stage_progress (goes_on a b c d e f g) some = omega (arith, a)
  stage_progress (enters a b c d e f g) some = omega (arith, a)
  stage_progress (pends a b c d e f g h) some = omega (arith, a)
  stage_progress (flushes a b c d e f g h) some = omega (arith, a)

  stage_first : IsStaged p → 0 < p.raises.progress → p.raises.first ≤ p.tail
  stage_first (rests a b c d e) some = omega (arith, b, some)
  stage_first (prepares a b c d e) some = omega (arith, b, some)
  stage_first (defers a b c d e f) some = c
  stage_first (goes_on a b c d e f g) some = d
  stage_first (enters a b c d e f g) some = d
  stage_first (pends a b c d e f g h) some = d
  stage_first (flushes a b c d e f g h) some = d

  stage_pending : IsStaged p → 0 < p.raises.pending → 2 ≤ p.stage
  stage_pending (rests a b c d e) some = omega (arith, c, some)
  stage_pending (prepares a b c d e) some = omega (arith, c, some)
  stage_pending (defers a b c d e f) some = omega (arith, d, some)
  stage_pending (goes_on a b c d e f g) some = omega (arith, a)
  stage_pending (enters a b c d e f g) some = omega (arith, a)
  stage_pending (pends a b c d e f g h) some = omega (arith, a)
  stage_pending (flushes a b c d e f g h) some = omega (arith, a)

  stage_ending : IsStaged p → 0 < p.raises.ending → (4 ≤ p.stage) × (p.raises.end ≤ p.tail)
  stage_ending (rests a b c d e) some = omega (arith, d, some)
  stage_ending (prepares a b c d e) some = omega (arith, d, some)
  stage_ending (defers a b c d e f) some = omega (arith, e, some)
  stage_ending (goes_on a b c d e f g) some = omega (arith, f, some)
  stage_ending (enters a b c d e f g) some = omega (arith, f, some)
  stage_ending (pends a b c d e f g h) some = omega (arith, g, some)
  stage_ending (flushes a b c d e f g h) some = (omega (arith, a), g some)

  -- what is safe by the stage
  safe_progress : IsStaged p → 2 ≤ p.stage → (0 < p.raises.progress) × (p.raises.progress ≤ p.safe)
  safe_progress (rests a b c d e) high = omega (arith, a, high)
  safe_progress (prepares a b c d e) high = omega (arith, a, high)
  safe_progress (defers a b c d e f) high = omega (arith, a, high)
  safe_progress (goes_on a b c d e f g) high = (b, c)
  safe_progress (enters a b c d e f g) high = (b, c)
  safe_progress (pends a b c d e f g h) high = (b, c)
  safe_progress (flushes a b c d e f g h) high = (b, c)

  safe_pending : IsStaged p → 3 ≤ p.stage → (0 < p.raises.pending) × (p.raises.pending ≤ p.safe)
  safe_pending (rests a b c d e) high = omega (arith, a, high)
  safe_pending (prepares a b c d e) high = omega (arith, a, high)
  safe_pending (defers a b c d e f) high = omega (arith, a, high)
  safe_pending (goes_on a b c d e f g) high = omega (arith, a, high)
  safe_pending (enters a b c d e f g) high = omega (arith, a, high)
  safe_pending (pends a b c d e f g h) high = (e, f)
  safe_pending (flushes a b c d e f g h) high = (e, f)

  -- ---- a view
  pub has_floor : IsSound p → (v : View) → Sees p v → HasFloor p v
  has_floor sound v sees = record {
    low = sees.low;
    rest = sees.floor;
    in_progress = λ high. (let safe = safe_progress sound.staged high in let after = sees.after in sees.progress safe.0 (let up = safe.1 in omega (arith, up, after)));
    wait_pending = λ high. (let safe = safe_pending sound.staged high in let after = sees.after in sees.pending safe.0 (let up = safe.1 in omega (arith, up, after)));
    progress = λ some up. (let after = sees.after in (sees.progress some (omega (arith, up, after))).0);
    pending = λ some up. (let after = sees.after in sees.pending some (omega (arith, up, after)));
    ending = λ some up. (let after = sees.after in sees.ending some (omega (arith, up, after)));
  }

  pub sees_now : IsSound p → Sees p (view_now p)
  sees_now sound = record {
    after = (let s = sound.raised.safe in omega (arith, s));
    stamped = omega arith;
    tailed = omega arith;
    low = omega arith;
    floor = omega arith;
    progress = λ some later. (let st = stage_progress sound.staged some in (omega (arith, st), stage_first sound.staged some));
    pending = λ some later. (let st = stage_pending sound.staged some in omega (arith, st));
    ending = λ some later. (let st = stage_ending sound.staged some in (let up = st.0 in omega (arith, up), st.1));
  }

-- ---- events that leave the views
-- all views go on so
views_go : (p q : Phasing) → IsSound p → q.sessions ≡ p.sessions → IsStaged q → AreRaised q → ((v : View) → Sees p v → Sees q v) → IsSound q
views_go p q sound same staged raised goes = record {
  staged = staged;
  raised = raised;
  views = λ s is. subst (λ (x : Sessions). Sees q (x.view s)) (sym same) (goes (p.sessions.view s) (sound.views s (sym (ap (λ (x : Sessions). x.live s) same) ∙ is)));
  coming = λ s is. subst (λ (x : Sessions). Sees q (x.coming s)) (sym same) (goes (p.sessions.coming s) (sound.coming s (sym (ap (λ (x : Sessions). x.comes s) same) ∙ is)));
}

module _ (p : Phasing) (sound : IsSound p) where
  staged_prepares : IsStaged p → p.stage ≡ 0 → IsStaged (phase_after p Prepares)
  unfolding phase_after
  staged_prepares (rests a b c d e) is = prepares refl b c d e
  staged_prepares (prepares a b c d e) is = absurd (omega (arith, a, is))
  staged_prepares (defers a b c d e f) is = absurd (omega (arith, a, is))
  staged_prepares (goes_on a b c d e f g) is = absurd (omega (arith, a, is))
  staged_prepares (enters a b c d e f g) is = absurd (omega (arith, a, is))
  staged_prepares (pends a b c d e f g h) is = absurd (omega (arith, a, is))
  staged_prepares (flushes a b c d e f g h) is = absurd (omega (arith, a, is))

  staged_flush : IsStaged p → p.stage ≡ 3 → IsStaged (phase_after p WaitsFlush)
  unfolding phase_after
  staged_flush (rests a b c d e) is = absurd (omega (arith, a, is))
  staged_flush (prepares a b c d e) is = absurd (omega (arith, a, is))
  staged_flush (defers a b c d e f) is = absurd (omega (arith, a, is))
  staged_flush (goes_on a b c d e f g) is = absurd (omega (arith, a, is))
  staged_flush (enters a b c d e f g) is = absurd (omega (arith, a, is))
  staged_flush (pends a b c d e f g h) is = flushes refl b c d e f (λ some. omega (arith, g, some)) h
  staged_flush (flushes a b c d e f g h) is = absurd (omega (arith, a, is))

  none_due : IsStaged p → p.stage ≡ 4 → p.raises.due ≡ 0
  none_due (rests a b c d e) is = absurd (omega (arith, a, is))
  none_due (prepares a b c d e) is = absurd (omega (arith, a, is))
  none_due (defers a b c d e f) is = absurd (omega (arith, a, is))
  none_due (goes_on a b c d e f g) is = absurd (omega (arith, a, is))
  none_due (enters a b c d e f g) is = absurd (omega (arith, a, is))
  none_due (pends a b c d e f g h) is = absurd (omega (arith, a, is))
  none_due (flushes a b c d e f g h) is = h

  staged_progress : IsStaged p → (first : ℕ) → p.stage ≡ 1 → p.raises.progress ≡ 0 → first ≤ p.tail → 0 < p.epoch → IsStaged (phase_after p (RaisesProgress first))
  unfolding phase_after
  staged_progress (rests a b c d e) first is none low some = absurd (omega (arith, a, is))
  staged_progress (prepares a b c d e) first is none low some = defers is some low c d refl
  staged_progress (defers a b c d e f) first is none low some = absurd (omega (arith, b, none))
  staged_progress (goes_on a b c d e f g) first is none low some = absurd (omega (arith, b, none))
  staged_progress (enters a b c d e f g) first is none low some = absurd (omega (arith, b, none))
  staged_progress (pends a b c d e f g h) first is none low some = absurd (omega (arith, b, none))
  staged_progress (flushes a b c d e f g h) first is none low some = absurd (omega (arith, b, none))

  staged_pending : IsStaged p → p.stage ≡ 2 → p.raises.pending ≡ 0 → 0 < p.epoch → IsStaged (phase_after p RaisesPending)
  unfolding phase_after
  staged_pending (rests a b c d e) is none some = absurd (omega (arith, a, is))
  staged_pending (prepares a b c d e) is none some = absurd (omega (arith, a, is))
  staged_pending (defers a b c d e f) is none some = absurd (omega (arith, a, is))
  staged_pending (goes_on a b c d e f g) is none some = enters a b c d some f refl
  staged_pending (enters a b c d e f g) is none some = absurd (omega (arith, e, none))
  staged_pending (pends a b c d e f g h) is none some = absurd (omega (arith, e, none))
  staged_pending (flushes a b c d e f g h) is none some = absurd (omega (arith, e, none))

  staged_ending : IsStaged p → (end : ℕ) → p.stage ≡ 4 → end ≤ p.tail → IsStaged (phase_after p (RaisesEnding end))
  unfolding phase_after
  staged_ending (rests a b c d e) end is low = absurd (omega (arith, a, is))
  staged_ending (prepares a b c d e) end is low = absurd (omega (arith, a, is))
  staged_ending (defers a b c d e f) end is low = absurd (omega (arith, a, is))
  staged_ending (goes_on a b c d e f g) end is low = absurd (omega (arith, a, is))
  staged_ending (enters a b c d e f g) end is low = absurd (omega (arith, a, is))
  staged_ending (pends a b c d e f g h) end is low = absurd (omega (arith, a, is))
  staged_ending (flushes a b c d e f g h) end is low = flushes a b c d e f (λ some. low) h

  -- the action that is due is the one of the stage
  staged_runs : IsStaged p → (c : ℕ) → p.raises.due ≡ c → 0 < c → c ≤ p.safe → IsStaged (phase_after p (StoresNext c))
  unfolding phase_after
  staged_runs (rests a b c d e) k is some up = absurd (omega (arith, e, is, some))
  staged_runs (prepares a b c d e) k is some up = absurd (omega (arith, e, is, some))
  staged_runs (defers a b c d e f) k is some up = goes_on (omega (arith, a)) b (omega (arith, f, is, up)) c d e refl
  staged_runs (goes_on a b c d e f g) k is some up = absurd (omega (arith, g, is, some))
  staged_runs (enters a b c d e f g) k is some up = pends (omega (arith, a)) b c d e (omega (arith, g, is, up)) f refl
  staged_runs (pends a b c d e f g h) k is some up = absurd (omega (arith, h, is, some))
  staged_runs (flushes a b c d e f g h) k is some up = absurd (omega (arith, h, is, some))

  -- what rises leaves the stage
  staged_safe : IsStaged p → (m : ℕ) → IsStaged (phase_after p (IsSafe m))
  unfolding phase_after
  staged_safe (rests a b c d e) m = rests a b c d e
  staged_safe (prepares a b c d e) m = prepares a b c d e
  staged_safe (defers a b c d e f) m = defers a b c d e f
  staged_safe (goes_on a b c d e f g) m = goes_on a b (omega (arith, c)) d e f g
  staged_safe (enters a b c d e f g) m = enters a b (omega (arith, c)) d e f g
  staged_safe (pends a b c d e f g h) m = pends a b (omega (arith, c)) d e (omega (arith, f)) g h
  staged_safe (flushes a b c d e f g h) m = flushes a b (omega (arith, c)) d e (omega (arith, f)) g h

  staged_reserves : IsStaged p → IsStaged (phase_after p Reserves)
  unfolding phase_after
  staged_reserves (rests a b c d e) = rests a b c d e
  staged_reserves (prepares a b c d e) = prepares a b c d e
  staged_reserves (defers a b c d e f) = defers a b (omega (arith, c)) d e f
  staged_reserves (goes_on a b c d e f g) = goes_on a b c (omega (arith, d)) e f g
  staged_reserves (enters a b c d e f g) = enters a b c (omega (arith, d)) e f g
  staged_reserves (pends a b c d e f g h) = pends a b c (omega (arith, d)) e f g h
  staged_reserves (flushes a b c d e f g h) = flushes a b c (omega (arith, d)) e f (λ some. let low = g some in omega (arith, low)) h

  some_epoch : 0 < p.epoch
  some_epoch = let s = sound.raised.safe in omega (arith, s)

  -- ---- each event
  pub event_sound : (event : PhaseEvent) → IsEnabled p event → IsSound (phase_after p event)
  unfolding phase_after
  event_sound Prepares is = views_go p _ sound refl (staged_prepares sound.staged is) (let r = sound.raised in record { safe = r.safe; progress = r.progress; pending = r.pending; ending = r.ending })
      (λ v sees. record { after = sees.after; stamped = sees.stamped; tailed = sees.tailed; low = (let l = sees.low in omega (arith, l, is)); floor = sees.floor; progress = sees.progress; pending = sees.pending; ending = sees.ending })
  event_sound WaitsFlush is = views_go p _ sound refl (staged_flush sound.staged is) (let r = sound.raised in record { safe = r.safe; progress = r.progress; pending = r.pending; ending = r.ending })
      (λ v sees. record { after = sees.after; stamped = sees.stamped; tailed = sees.tailed; low = (let l = sees.low in omega (arith, l, is)); floor = sees.floor; progress = sees.progress; pending = sees.pending; ending = sees.ending })
  event_sound Rests enabled = views_go p _ sound refl (rests refl refl refl refl (none_due sound.staged enabled.0))
      (let r = sound.raised in let s = r.safe in record { safe = s; progress = omega (arith, s); pending = omega (arith, s); ending = omega (arith, s) })
      (λ v sees.
      let after = sees.after in
      let up = enabled.2 in
      let top = (sees.ending enabled.1 (omega (arith, after, up))).0 in
      record { after = after; stamped = sees.stamped; tailed = sees.tailed; low = (let l = sees.low in let is = enabled.0 in omega (arith, l, is)); floor = omega (arith, top); progress = λ some later. omega (arith, some); pending = λ some later. omega (arith, some); ending = λ some later. omega (arith, some) })
  event_sound (RaisesProgress first) enabled = views_go p _ sound refl (staged_progress sound.staged first enabled.0 enabled.1 enabled.2 some_epoch)
      (let r = sound.raised in let s = r.safe in let t = r.pending in let h = r.ending in record { safe = omega (arith, s); progress = omega arith; pending = omega (arith, t); ending = omega (arith, h) })
      (λ v sees. let st = sees.stamped in record { after = sees.after; stamped = omega (arith, st); tailed = sees.tailed; low = sees.low; floor = sees.floor; progress = λ some later. omega (arith, later, st); pending = sees.pending; ending = sees.ending })
  event_sound RaisesPending enabled = views_go p _ sound refl (staged_pending sound.staged enabled.0 enabled.1 some_epoch)
      (let r = sound.raised in let s = r.safe in let o = r.progress in let h = r.ending in record { safe = omega (arith, s); progress = omega (arith, o); pending = omega arith; ending = omega (arith, h) })
      (λ v sees. let st = sees.stamped in record { after = sees.after; stamped = omega (arith, st); tailed = sees.tailed; low = sees.low; floor = sees.floor; progress = sees.progress; pending = λ some later. omega (arith, later, st); ending = sees.ending })
  event_sound (RaisesEnding end) enabled = views_go p _ sound refl (staged_ending sound.staged end enabled.0 enabled.2)
      (let r = sound.raised in let s = r.safe in let o = r.progress in let t = r.pending in record { safe = omega (arith, s); progress = omega (arith, o); pending = omega (arith, t); ending = omega arith })
      (λ v sees. let st = sees.stamped in record { after = sees.after; stamped = omega (arith, st); tailed = sees.tailed; low = sees.low; floor = sees.floor; progress = sees.progress; pending = sees.pending; ending = λ some later. omega (arith, later, st) })
  event_sound (StoresNext c) enabled = views_go p _ sound refl (staged_runs sound.staged c enabled.0 enabled.1 enabled.2) (let r = sound.raised in record { safe = r.safe; progress = r.progress; pending = r.pending; ending = r.ending })
      (λ v sees. record { after = sees.after; stamped = sees.stamped; tailed = sees.tailed; low = (let l = sees.low in omega (arith, l)); floor = sees.floor; progress = sees.progress; pending = sees.pending; ending = sees.ending })
  event_sound RaisesElse enabled = views_go p _ sound refl sound.staged
      (let r = sound.raised in let s = r.safe in let o = r.progress in let t = r.pending in let h = r.ending in record { safe = omega (arith, s); progress = omega (arith, o); pending = omega (arith, t); ending = omega (arith, h) })
      (λ v sees. let st = sees.stamped in record { after = sees.after; stamped = omega (arith, st); tailed = sees.tailed; low = sees.low; floor = sees.floor; progress = sees.progress; pending = sees.pending; ending = sees.ending })
  event_sound (IsSafe m) enabled = record {
    staged = staged_safe sound.staged m;
    raised = (let r = sound.raised in let s = r.safe in let below = enabled.below in record { safe = omega (arith, s, below); progress = r.progress; pending = r.pending; ending = r.ending });
    views = λ s is. (let sees = sound.views s is in let a = sees.after in let b = enabled.views s is in record { after = omega (arith, a, b); stamped = sees.stamped; tailed = sees.tailed; low = sees.low; floor = sees.floor; progress = sees.progress; pending = sees.pending; ending = sees.ending });
    coming = λ s is. (let sees = sound.coming s is in let a = sees.after in let b = enabled.coming s is in record { after = omega (arith, a, b); stamped = sees.stamped; tailed = sees.tailed; low = sees.low; floor = sees.floor; progress = sees.progress; pending = sees.pending; ending = sees.ending });
  }
  event_sound Reserves enabled = views_go p _ sound refl (staged_reserves sound.staged) (let r = sound.raised in record { safe = r.safe; progress = r.progress; pending = r.pending; ending = r.ending })
      (λ v sees. let t = sees.tailed in record { after = sees.after; stamped = sees.stamped; tailed = omega (arith, t); low = sees.low; floor = sees.floor; progress = sees.progress; pending = sees.pending; ending = sees.ending })
  event_sound (Loads s) enabled = record {
    staged = sound.staged;
    raised = (let r = sound.raised in record { safe = r.safe; progress = r.progress; pending = r.pending; ending = r.ending });
    views = λ other is. same_sees (p.sessions.view other) (sound.views other is);
    coming = λ other is. loaded other is;
  }
    where
      q : Phasing
      q = phase_after p (Loads s)

      same_sees : (v : View) → Sees p v → Sees (phase_after p (Loads s)) v
      same_sees v sees = record { after = sees.after; stamped = sees.stamped; tailed = sees.tailed; low = sees.low; floor = sees.floor; progress = sees.progress; pending = sees.pending; ending = sees.ending }

      loaded : (other : ℕ) → set_at p.sessions.comes s true other ≡ true → Sees (phase_after p (Loads s)) (set_at p.sessions.coming s (view_now p) other)
      loaded other is = elim (at_either (λ (b : Bool). b ≡ true) p.sessions.comes s true other is) [
        | inl old ↦ subst (Sees (phase_after p (Loads s))) (sym (set_else p.sessions.coming s (view_now p) other old.0)) (same_sees (p.sessions.coming other) (sound.coming other old.1))
        | inr new ↦ subst (Sees (phase_after p (Loads s))) (sym (there p.sessions.coming s (view_now p) other new.0)) (same_sees (view_now p) (sees_now p sound))
      ]
  event_sound (Completes s) enabled = record {
    staged = sound.staged;
    raised = (let r = sound.raised in record { safe = r.safe; progress = r.progress; pending = r.pending; ending = r.ending });
    views = λ other is. completed other is;
    coming = λ other is. still_coming other is;
  }
    where
      same_sees : (v : View) → Sees p v → Sees (phase_after p (Completes s)) v
      same_sees v sees = record { after = sees.after; stamped = sees.stamped; tailed = sees.tailed; low = sees.low; floor = sees.floor; progress = sees.progress; pending = sees.pending; ending = sees.ending }

      completed : (other : ℕ) → set_at p.sessions.live s true other ≡ true → Sees (phase_after p (Completes s)) (set_at p.sessions.view s (p.sessions.coming s) other)
      completed other is = elim (at_either (λ (b : Bool). b ≡ true) p.sessions.live s true other is) [
        | inl old ↦ subst (Sees (phase_after p (Completes s))) (sym (set_else p.sessions.view s (p.sessions.coming s) other old.0)) (same_sees (p.sessions.view other) (sound.views other old.1))
        | inr new ↦ subst (Sees (phase_after p (Completes s))) (sym (there p.sessions.view s (p.sessions.coming s) other new.0)) (same_sees (p.sessions.coming s) (sound.coming s enabled))
      ]

      still_coming : (other : ℕ) → set_at p.sessions.comes s false other ≡ true → Sees (phase_after p (Completes s)) (p.sessions.coming other)
      still_coming other is = elim (at_either (λ (b : Bool). b ≡ true) p.sessions.comes s false other is) [
        | inl old ↦ same_sees (p.sessions.coming other) (sound.coming other old.1)
        | inr new ↦ (let off = new.1 in absurd (cc))
      ]
  event_sound (Leaves s) enabled = record {
    staged = sound.staged;
    raised = (let r = sound.raised in record { safe = r.safe; progress = r.progress; pending = r.pending; ending = r.ending });
    views = λ other is. still_live other is;
    coming = λ other is. same_sees (p.sessions.coming other) (sound.coming other is);
  }
    where
      same_sees : (v : View) → Sees p v → Sees (phase_after p (Leaves s)) v
      same_sees v sees = record { after = sees.after; stamped = sees.stamped; tailed = sees.tailed; low = sees.low; floor = sees.floor; progress = sees.progress; pending = sees.pending; ending = sees.ending }

      still_live : (other : ℕ) → set_at p.sessions.live s false other ≡ true → Sees (phase_after p (Leaves s)) (p.sessions.view other)
      still_live other is = elim (at_either (λ (b : Bool). b ≡ true) p.sessions.live s false other is) [
        | inl old ↦ same_sees (p.sessions.view other) (sound.views other old.1)
        | inr new ↦ (let off = new.1 in absurd (cc))
      ]

pub run_sound : (opening : Phasing) (events : List PhaseEvent) → IsSound opening → AreEnabled opening events → IsSound (phase_run opening events)
unfolding phase_run AreEnabled
run_sound opening [] sound enabled = sound
run_sound opening (event ∷ before) sound enabled = event_sound (phase_run opening before) (run_sound opening before sound enabled.0) event enabled.1

pub run_floor : (opening : Phasing) (events : List PhaseEvent) → IsSound opening → AreEnabled opening events → HaveFloor (phase_run opening events)
run_floor opening events sound enabled s is = (let now = run_sound opening events sound enabled in has_floor (phase_run opening events) now _ (now.views s is))

-- ---- the phase word only goes on
rank_rises : (p : Phasing) (event : PhaseEvent) → IsEnabled p event → rank_of p ≤ rank_of (phase_after p event)
unfolding phase_after
rank_rises p Prepares is = omega (arith, is)
rank_rises p WaitsFlush is = omega (arith, is)
rank_rises p Rests enabled = (let is = enabled.0 in omega (arith, is))
rank_rises p (RaisesProgress first) enabled = omega arith
rank_rises p RaisesPending enabled = omega arith
rank_rises p (RaisesEnding end) enabled = omega arith
rank_rises p (StoresNext c) enabled = omega arith
rank_rises p RaisesElse enabled = omega arith
rank_rises p (IsSafe m) enabled = omega arith
rank_rises p Reserves enabled = omega arith
rank_rises p (Loads s) enabled = omega arith
rank_rises p (Completes s) enabled = omega arith
rank_rises p (Leaves s) enabled = omega arith

pub run_rises : (opening : Phasing) (event : PhaseEvent) (before : List PhaseEvent) → AreEnabled opening (event ∷ before) → rank_of (phase_run opening before) ≤ rank_of (phase_run opening (event ∷ before))
unfolding phase_run AreEnabled
run_rises opening event before enabled = rank_rises (phase_run opening before) event enabled.1
