-- Which status a run over two files in memory leaves.
use Rattle.std.proofs.Common.{◌≡◌, ◌≢◌, ◌⊎◌, ◌∙◌, ℕ, zero, suc, ◌<◌, ◌≤◌, ◌+◌, List, [], ◌∷◌, length, get_or, take, drop, Option, Some, None, inl, inr, sym, ap, subst, refl, arith}
use Rattle.std.proofs.Math.Seq.{get_or-drop}
use Rattle.std.proofs.lemmas.Bool.{cases_lt}
use Rattle.std.proofs.lemmas.List.{length-drop}
use Rattle.std.specs.List.{All}
use Rattle.row_model.specs.declared.refusal.Refusal.{Refusal}
use Rattle.row_model.specs.declared.refusal.Read.{Read}
use Rattle.row_model.specs.declared.refusal.Read.TheVariants as read
use Rattle.command_input.specs.Words.{Command, Solve, Check, Extend, Gen, Meet, ListOrders, UnitModel, CheckUnit, Core, CheckCore, files_of}
use Rattle.command_input.specs.Instances.{instance_of}
use Rattle.command_input.specs.TreeFiles.{tree_file}
use Rattle.pq_cli.specs.Replies.{Replies, refusable, refusal_of, refused_at, refused_of_two}
use Rattle.pq_cli.specs.Told.{AllTold}
use Rattle.memory_run.specs.Given.{given, IsGiven}
use Rattle.memory_run.specs.Called.{IsFirstAnother, IsWholeRun, IsHandedOver}
use Rattle.memory_run.specs.Complete.{CompleteInMemoryLaw}

-- where both of two files hold values, none is refused
both_read : {T U : Type 0} (second : T → Read U) {x : Read T} {v : T} {w : U} → x ≡ read.Ok v → second v ≡ read.Ok w → refused_of_two x second ≡ None
both_read second one other = ap (λ y. refused_of_two y second) one ∙ ap (refused_at 2) other

-- of files to which there is a reply none is refused
none_refused : (c : Command) (files : List (List ℕ)) (n : ℕ) (text : List ℕ) → Replies c files n text → refusal_of c files ≡ None
unfolding Replies
none_refused (Solve kind _) (bytes ∷ []) n text r = ap (refused_at 1) r.1
none_refused (Check kind _ _) (bytes ∷ verdict ∷ []) n text r = ap (refused_at 1) r.1
none_refused (Extend kind _ _) (bytes ∷ rows ∷ []) n text r = both_read _ r.2 r.3
none_refused (Core kind _) (bytes ∷ []) n text r = ap (refused_at 1) r.1
none_refused (CheckCore kind _ _) (bytes ∷ core ∷ []) n text r = ap (refused_at 1) r.1
none_refused (Gen _ _ _) [] n text r = refl
none_refused (Meet c _ _) (one ∷ other ∷ []) n text r = both_read _ r.2 r.3
none_refused (ListOrders kind _ _) (bytes ∷ []) n text r = ap (refused_at 1) r.1
none_refused (UnitModel _) (bytes ∷ []) n text r = ap (refused_at 1) r.1
none_refused (CheckUnit _ _) (bytes ∷ unit ∷ []) n text r = ap (refused_at 1) r.1
none_refused c files n text r = absurd r

none_or_some : {A : Type 0} {o : Option A} {x : A} → o ≡ Some x → o ≡ None → ⊥
none_or_some some none = cc

-- where the first of two files is refused, this is the refusal of both
first_of_two : {T U : Type 0} (second : T → Read U) (x : Read T) (refusal : Refusal) → refused_at 1 x ≡ Some (1, refusal) → refused_of_two x second ≡ None → ⊥
first_of_two second (read.Ok v) refusal some none = cc
first_of_two second (read.Refused r) refusal some none = none_or_some some none

-- one of the first files that is refused is one of all
one_refused : (c : Command) (files : List (List ℕ)) (which : ℕ) (refusal : Refusal) → 1 ≤ which → which ≤ refusable c → refusal_of c (take which files) ≡ Some (which, refusal) → refusal_of c files ≡ None → ⊥
one_refused c files zero refusal from to some none = omega (arith, from)
one_refused c [] (suc n) refusal from to some none = none_or_some some refl
one_refused (Solve _ _) (b ∷ bs) (suc zero) refusal from to some none = none_or_some some none
one_refused (Check _ _ _) (b ∷ bs) (suc zero) refusal from to some none = none_or_some some none
one_refused (Core _ _) (b ∷ bs) (suc zero) refusal from to some none = none_or_some some none
one_refused (CheckCore _ _ _) (b ∷ bs) (suc zero) refusal from to some none = none_or_some some none
one_refused (ListOrders _ _ _) (b ∷ bs) (suc zero) refusal from to some none = none_or_some some none
one_refused (UnitModel _) (b ∷ bs) (suc zero) refusal from to some none = none_or_some some none
one_refused (CheckUnit _ _) (b ∷ bs) (suc zero) refusal from to some none = none_or_some some none
one_refused (Extend _ _ _) (b ∷ []) (suc zero) refusal from to some none = none_or_some some none
one_refused (Extend kind _ _) (b ∷ rows ∷ bs) (suc zero) refusal from to some none = first_of_two _ (instance_of kind b) refusal some none
one_refused (Extend _ _ _) (b ∷ []) (suc (suc zero)) refusal from to some none = none_or_some some none
one_refused (Extend _ _ _) (b ∷ rows ∷ bs) (suc (suc zero)) refusal from to some none = none_or_some some none
one_refused (Meet _ _ _) (b ∷ []) (suc zero) refusal from to some none = none_or_some some none
one_refused (Meet c _ _) (b ∷ other ∷ bs) (suc zero) refusal from to some none = first_of_two _ (tree_file c b) refusal some none
one_refused (Meet _ _ _) (b ∷ []) (suc (suc zero)) refusal from to some none = none_or_some some none
one_refused (Meet _ _ _) (b ∷ other ∷ bs) (suc (suc zero)) refusal from to some none = none_or_some some none
one_refused c files (suc n) refusal from to some none = omega (arith, to)

told_first : (told : List ℕ → Option (List ℕ)) (n : ℕ) (names files : List (List ℕ)) → AllTold told names files → AllTold told (take n names) (take n files)
told_first told zero names files all = tt
told_first told (suc n) (name ∷ names) (f ∷ files) all = (all.0, told_first told n names files all.1)
told_first told (suc n) [] [] all = tt
told_first told (suc n) names files all = absurd all

-- where all names are among the two, none is another
none_other : (first second : List ℕ) (c : Command) (before : ℕ) (name : List ℕ) → All IsGiven (files_of c) → IsFirstAnother first second c before name → ⊥
none_other first second c before name all other =
    let there : length (drop before (files_of c)) ≡ suc (length other.next.0) = ap length other.next.1 in
    let less : before < length (files_of c) = omega (arith, there, length-drop before (files_of c)) in
    let same : get_or (files_of c) (before + 0) name ≡ name = sym (get_or-drop before (files_of c) 0 name) ∙ ap (λ xs. get_or xs 0 name) other.next.1 in
    other.another (subst IsGiven same (all (before + 0) name (omega (arith, less))))

module _ (c : Command) (first second : List ℕ) (all : All IsGiven (files_of c)) (files : List (List ℕ)) (told : AllTold (given first second) (files_of c) files) where
  fine : refusal_of c files ≡ None → (n : ℕ) (text line : List ℕ) → IsWholeRun (Some c) first second n text line → (n ≡ 0) ⊎ (n ≡ 1) ⊎ (n ≡ 6)
  fine none zero text line run = inl refl
  fine none (suc zero) text line run = inr (inl refl)
  fine none (suc (suc zero)) text line run = absurd (let e = run.grammar refl in cc)
  fine none (suc (suc (suc zero))) text line run = absurd (
      let r = (run.said (omega arith)).refused refl in
      one_refused c files r.0 r.1 r.3.from r.3.to (r.3.first_one (take r.0 files) (told_first (given first second) r.0 (files_of c) files told)) none)
  fine none (suc (suc (suc (suc zero)))) text line run = absurd (let a = run.another refl in none_other first second c a.0 a.1 all a.2)
  fine none (suc (suc (suc (suc (suc zero))))) text line run = absurd (run.range.1 refl)
  fine none (suc (suc (suc (suc (suc (suc n)))))) text line run = inr (inr (omega (arith, run.range.0)))

  refused : refusal_of c files ≢ None → (n : ℕ) (text line : List ℕ) → IsWholeRun (Some c) first second n text line → (n ≡ 3) ⊎ (n ≡ 6)
  refused some zero text line run = absurd (some (none_refused c files 0 text (run.reply (inl refl) files told)))
  refused some (suc zero) text line run = absurd (some (none_refused c files 1 text (run.reply (inr refl) files told)))
  refused some (suc (suc zero)) text line run = absurd (let e = run.grammar refl in cc)
  refused some (suc (suc (suc zero))) text line run = inl refl
  refused some (suc (suc (suc (suc zero)))) text line run = absurd (let a = run.another refl in none_other first second c a.0 a.1 all a.2)
  refused some (suc (suc (suc (suc (suc zero))))) text line run = absurd (run.range.1 refl)
  refused some (suc (suc (suc (suc (suc (suc n)))))) text line run = inr (omega (arith, run.range.0))

  handed_refusal : (n : ℕ) (text line : List ℕ) (room line_room status : ℕ) (copy shown : List ℕ) → IsWholeRun (Some c) first second n text line → IsHandedOver room line_room n text line status copy shown
      → (n ≡ 3) ⊎ (n ≡ 6) → (status ≡ 3) ⊎ (status ≡ 6)
  handed_refusal n text line room line_room status copy shown run over (inl three) = inl ((over.fits (omega (arith, ap length (run.unwritten (omega (arith, three)))))).0 ∙ three)
  handed_refusal n text line room line_room status copy shown run over (inr six) = inr ((over.fits (omega (arith, ap length (run.unwritten (omega (arith, six)))))).0 ∙ six)

  handed_reply : (n : ℕ) (text line : List ℕ) (room line_room status : ℕ) (copy shown : List ℕ) → IsHandedOver room line_room n text line status copy shown
      → (n ≡ 0) ⊎ (n ≡ 1) ⊎ (n ≡ 6) → (status ≡ 0) ⊎ (status ≡ 1) ⊎ (status ≡ 5) ⊎ (status ≡ 6)
  handed_reply n text line room line_room status copy shown over is = elim (cases_lt room (length text)) [
    | inl more ↦ inr (inr (inl (over.cut_short more).0))
    | inr fits ↦ let e = (over.fits fits).0 in elim is [
      | inl none ↦ inl (e ∙ none)
      | inr rest ↦ elim rest [
        | inl one ↦ inr (inl (e ∙ one))
        | inr six ↦ inr (inr (inr (e ∙ six)))
      ]
    ]
  ]

pub complete : CompleteInMemoryLaw
complete c first second copy shown room line_room status all run files told = (
  λ some. handed_refusal c first second all files told run.0 run.1 run.2 room line_room status copy shown run.3 run.4 (refused c first second all files told some run.0 run.1 run.2 run.3),
  λ none. handed_reply c first second all files told run.0 run.1 run.2 room line_room status copy shown run.4 (fine c first second all files told none run.0 run.1 run.2 run.3),
)
