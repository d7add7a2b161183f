-- `lent` lends what C holds: the struct is opened, and the value behind its pointer leaves as a `&mut`.
use Rattle.std.proofs.Common.{◌≡◌, ℕ, List, [], ◌∷◌, refl, sym, ap, ◌∙◌}
use Rattle.std.proofs.raw_atomic.Walks.{proved}
use Rattle.std.proofs.VecSteps.Shapes.{after}
use seplogic.Ra.Ura.{Ura}
use base.Fraction.{full_share}
use base.Logic.{ent, sep, never, fst∗, id⊢}
use base.Fml.{Fml, GName, ftrue, fsep, flft}
use mir.Syntax.{named}
use mir.Raw.{raw as bare}
use mir.Val.{Val, vptr}
use contract.Running.{tables}
use types.Logic.{Logic, sem}
use types.Kit.{‵, raw, ◌⊛◌, some, later, at_ret, ◌$◌, ◌∵◌, !, qed, done, move, keep, use1, split, join, fsplit, fsplit3, fjoin, fpack, pick, await, rewrite, suffices, frame, group}
use types.Part.{whole, sub, look_in}
use types.Run.{enter, of_opd, addr, load, stop, fld, first, blocks, exec, returns}
use types.ByLocal.{alloc_all, pass_all, free_all, look_at, get, through, sets, sets_last, env}
use denote.Exit.{no}
use denote.Follow.{follows, Part, lends_Part}
use denote.Laws.{shows}
use denote.Memory.{mem, part_at, cell_at, part_of, lone}
use denote.RawPtr.{Ptr, block_ptr, null_ptr, in_a_block}
use denote.Ref.{MutRef, mut_vals, mut_Tells}
use denote.Signature.{plain, mut_ref_to}
use denote.Steps.{nothing, opens, peeks}
use denote.Struct.Owning.{shape, to}
use denote.Struct.Struct.{Struct}
use denote.Triple.Walked.{Stays, walk_of, says, stay_dropped, Goes-spent_ref, ends_at}
use Rattle.std_heap.specs.declared.Global.{Global}
use Rattle.std_heap.specs.contracts.GlobalAllocator.TheImpl.{ghosts}
use Rattle.std_alloc.specs.Box.Ownership.{box_owns}
use Rattle.fkv_handles.specs.declared.sessions.Session.{Session}
use Rattle.fkv_face.specs.declared.held_session.HeldSession.{HeldSession}
use Rattle.fkv_handles.specs.contracts.sessions.Session.{the_row as S}
use Rattle.fkv_face.specs.contracts.held_session.HeldSession.{the_row as R, the_type}
use Rattle.fkv_face.proofs.held_session.HeldSession.TheLaws.{lowers}
use Rattle.fkv_face.specs.contracts.held_session.HeldSession.lent as f
use Rattle.fkv_face.proofs.held_session.HeldSession.lent.Statement.{statement}
use Rattle.fkv_face.proofs.held_session.HeldSession.lent.Code as code

abbrev stayed : Stays f.ended.signature.params f.ended.kept
stayed = (stay_dropped (mut_ref_to (0 ∷ []) tt (plain (λ _. R))) no, tt)

abbrev Fields : HeldSession → List Val → Fml
Fields h us = (Struct (shape the_type)).own_val (to the_type h) us

abbrev Owned : Global → Ptr → Session → Fml
Owned g p x = box_owns (ghosts.dealloc_token g) S p x

-- all of the struct but the value
abbrev Rest : HeldSession → List Val → ℕ → ℕ → ℕ → ℕ → Fml
Rest h us b o b' o' = fsep (ghosts.dealloc_token h.alloc (bare (lone S.mir)) (block_ptr b' o')) (fsep (Fields h us) (cell_at full_share R.mir us b o))

abbrev with : HeldSession → Session → HeldSession
with h x = record h { value = x }

back : {M : Type 1} {𝓤 : Ura M} (𝓛 : Logic 𝓤) (h : HeldSession) (us : List Val) (b o b' o' : ℕ) → h.at ≡ block_ptr b' o' → (w : Session)
    → ent 𝓤 (sep 𝓤 (sem 𝓛 ((mem S).own_at w b' o')) (sem 𝓛 (Rest h us b o b' o'))) (sem 𝓛 ((mem R).own_at (with h w) b o))
unfolding part_of
back 𝓛 h us b o b' o' e w =
    qed 𝓛 (‵ (part_at S full_share w b' o') ∷ ‵ (Rest h us b o b' o') ∷ []) ∵ move ! (1 ∷ []) $ fsplit ! $ move ! (1 ∷ []) $ fsplit ! $
    -- [the fields; the cell; the chunk; the value]
    move ! (3 ∷ 2 ∷ []) $ fjoin ! $ rewrite ! 0 (λ (p : Ptr). ‵ (Owned h.alloc p w)) (sym e) refl $
    move ! (1 ∷ 0 ∷ []) $ fjoin ! $ move ! (1 ∷ 0 ∷ []) $ fjoin ! $
    fpack ! (List Val) (λ ws. fsep (cell_at full_share R.mir ws b o) (R.own_val (with h w) ws)) us $ done !

pub lent_spec : {M : Type 1} → statement M
lent_spec 𝓤 𝓛 𝓜 𝓡 wired =
    let c = f.clauses 𝓛 𝓜.mem 𝓡.returns in let W = walk_of 𝓛 f.ended stayed c in let 𝓣 = tables 𝓤 𝓛.H 𝓜 𝓡 𝓡.env in
    proved 𝓛 f.ended stayed c 𝓜 𝓡 (Goes-spent_ref 𝓛 1 (0 ∷ []) tt (plain (λ _. R)), tt)
    f.Key.name code.function (code.unfolded 𝓤 𝓛.H 𝓜 𝓡 wired)
    (λ κs. (mut_vals, tt)) (λ κs. (mut_Tells (named 0) κs.0 R, tt)) (λ κs qs bounds a _ are.
    let κ = κs.0 in let q = qs.0 in let b = a.0.ref_ptr.0 in let o = a.0.ref_ptr.1 in let γ = a.0.ghost_name in let h = a.0.now in let vs = mut_vals a.0 in
    let y : W.Ghost = ((κs, qs, bounds, a, (vs, tt)), tt) in
    qed 𝓛 (((‵ (flft κ q) ⊛ ‵ ftrue) ⊛ ‵ ((MutRef (named 0) κ R).own_val a.0 vs) ⊛ ‵ ftrue) ∷ ‵ ftrue ∷ []) ∵
    split ! $ split ! $ move ! (2 ∷ []) $ split ! $ keep ! (0 ∷ 2 ∷ []) $
    enter ! _ _ _ _ _ $ alloc_all ! (λ l. pass_all ! refl ((tt, tt), tt) $
    fsplit3 ! $ move ! (1 ∷ 2 ∷ 3 ∷ []) $ opens ! tt R b o (λ us.
    move ! (1 ∷ []) $ peeks ! R _ (shows 𝓛 R) h us (λ is. fsplit ! $ move ! (1 ∷ []) $
    in_a_block ! h.at (λ p. Owned h.alloc p h.value) (fst∗ 𝓤 (never 𝓤) (sem 𝓛 (ghosts.dealloc_token h.alloc (bare (lone S.mir)) null_ptr))) (λ b' o' e. fsplit ! $
    let word = lowers.val_is h us is ∙ ap (λ (p : Ptr). lowers.lowered (record h { at = p }) ∷ []) e in
    let Cell = λ (ws : List Val). ‵ (cell_at full_share R.mir ws b o) in
    rewrite ! 3 Cell word refl $
    -- [the value; the chunk; the fields; the cell; the open borrow, in three entries]
    first ! $ blocks ! $
    sets ! (of_opd ! (load ! (through ! refl (fld ! refl (stop !))) (look_in ! 3 (sub ! 0 refl (whole !))))) refl (tt, tt) $
    sets_last ! (addr ! (through ! refl (stop !))) refl (tt, tt) $
    exec ! 𝓣.C 𝓣.Λ (env code.Mir.locals l) (after 1 (code.function).body) (at_ret _ (W.post y)) $
    sets ! (of_opd ! (get ! refl)) refl (tt, tt) $
    rewrite ! 3 Cell (sym word) refl $
    move ! (2 ∷ 3 ∷ []) $ fjoin ! $ move ! (2 ∷ 0 ∷ []) $ fjoin ! $ move ! (2 ∷ 3 ∷ 4 ∷ 1 ∷ 0 ∷ []) $ group ! 5 $
    use1 𝓛 (later (some (λ (γ' : GName). raw (Part 𝓛 R S (with h) (named 0) κ q b o b' o' γ (sem 𝓛 (Rest h us b o b' o')) (back 𝓛 h us b o b' o' e) h.value γ'))))
    (lends_Part 𝓛 R S (with h) (named 0) κ q b o b' o' γ (sem 𝓛 (Rest h us b o b' o')) (back 𝓛 h us b o b' o' e) (R.coded.code h) (R.coded.code h) h.value) $ await ! tt $ pick ! (λ γ'.
    returns ! (look_at ! 0 refl) $ free_all ! refl $ keep ! (0 ∷ []) $
    use1 𝓛 (‵ ((MutRef (named 0) κ S).own_val (record { ref_ptr = (b', o'); ghost_name = γ'; now = h.value }) (vptr b' o' ∷ [])) ⊛ ‵ (flft κ q) ⊛ ‵ (follows R S γ γ' (with h))) (id⊢ 𝓤 _) $
    split ! $ move ! (1 ∷ []) $ split ! $ keep ! (0 ∷ 2 ∷ 1 ∷ []) $
    -- [the token; the reference; what follows]
    suffices ! _ (ends_at 𝓛 f.ended stayed c y (vptr b' o') (record { ref_ptr = (b', o'); ghost_name = γ'; now = h.value }) (tt, tt) (tt, tt)) $
    nothing ! $ nothing ! $ fjoin ! $ nothing ! $ move ! (2 ∷ 0 ∷ []) $ join ! $ group ! 3 $ frame ! $ says ! refl $ done !))))))
