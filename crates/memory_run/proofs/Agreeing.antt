-- A check in memory of what `solve` gave in memory.
use Rattle.std.proofs.Common.{◌≡◌, ◌⊎◌, ◌∙◌, ℕ, zero, suc, List, [], ◌∷◌, length, codes, Some, None, inl, inr, sym, ap, subst, refl, arith}
use Rattle.std.proofs.lemmas.Bool.{cases_lt}
use Rattle.std.proofs.lemmas.List.{length-drop}
use Rattle.row_model.specs.declared.kind.Kind.{Kind}
use Rattle.row_model.specs.declared.refusal.Refusal.{Refusal}
use Rattle.command_input.specs.Words.{Command, Solve, Check, files_of}
use Rattle.command_input.specs.Instances.{instance_of}
use Rattle.pq_cli.specs.Replies.{Replies, refused_at}
use Rattle.pq_cli.specs.Check.{AgreedLaw}
use Rattle.memory_run.specs.Called.{IsFirstRefused, IsFirstAnother, IsWholeRun, IsHandedOver, IsRunOf}
use Rattle.memory_run.specs.Agreed.{AgreedInMemoryLaw}

abbrev solving : Kind → Command
solving kind = Solve kind (codes "1")

abbrev checking : Kind → Command
checking kind = Check kind (codes "1") (codes "2")

-- what `solve` replied to is not refused
is_fine : (kind : Kind) (file : List ℕ) (status : ℕ) (text : List ℕ) → Replies (solving kind) (file ∷ []) status text → refused_at 1 (instance_of kind file) ≡ None
unfolding Replies
is_fine kind file status text reply = ap (refused_at 1) reply.1

-- so a check doesn't refuse it either
not_refused : (kind : Kind) (file reply : List ℕ) (which : ℕ) (refusal : Refusal) → refused_at 1 (instance_of kind file) ≡ None → IsFirstRefused file reply (checking kind) which refusal → ⊥
not_refused kind file reply zero refusal fine first = absurd (omega (arith, first.from))
not_refused kind file reply (suc zero) refusal fine first = let refused : refused_at 1 (instance_of kind file) ≡ Some (1, refusal) = first.first_one (file ∷ []) (refl, tt) in cc
not_refused kind file reply (suc (suc n)) refusal fine first = absurd (omega (arith, first.to))

-- and it names the two files alone
no_other : (kind : Kind) (file reply : List ℕ) (before : ℕ) (name : List ℕ) → IsFirstAnother file reply (checking kind) before name → ⊥
no_other kind file reply zero name first = let e : codes "1" ∷ codes "2" ∷ [] ≡ name ∷ first.next.0 = first.next.1 in first.another (inl (cc))
no_other kind file reply (suc zero) name first = let e : codes "2" ∷ [] ≡ name ∷ first.next.0 = first.next.1 in first.another (inr (cc))
no_other kind file reply (suc (suc n)) name first = absurd (omega (arith, length-drop (suc (suc n)) (files_of (checking kind)), ap length first.next.1))

module _ (law : AgreedLaw) (kind : Kind) (file reply : List ℕ) (fine : refused_at 1 (instance_of kind file) ≡ None) (status : ℕ) (solved : Replies (solving kind) (file ∷ []) status reply) where
  abbrev pub IsFound : ℕ → List ℕ → Type 0
  IsFound n text = ((n ≡ 0) × (text ≡ codes "valid\n")) ⊎ ((n ≡ 6) × (text ≡ []))

  -- what the check left
  found : (n : ℕ) (text line : List ℕ) → IsWholeRun (Some (checking kind)) file reply n text line → IsFound n text
  found zero text line run = inl (law kind (codes "1") (codes "1") (codes "2") file reply text status 0 solved (run.reply (inl refl) (file ∷ reply ∷ []) (refl, (refl, tt))))
  found (suc zero) text line run = inl (law kind (codes "1") (codes "1") (codes "2") file reply text status 1 solved (run.reply (inr refl) (file ∷ reply ∷ []) (refl, (refl, tt))))
  found (suc (suc zero)) text line run = absurd (let e = run.grammar refl in cc)
  found (suc (suc (suc zero))) text line run = absurd (let r = (run.said (omega arith)).refused refl in not_refused kind file reply r.0 r.1 fine r.3)
  found (suc (suc (suc (suc zero)))) text line run = absurd (let a = run.another refl in no_other kind file reply a.0 a.1 a.2)
  found (suc (suc (suc (suc (suc zero))))) text line run = absurd (run.range.1 refl)
  found (suc (suc (suc (suc (suc (suc zero)))))) text line run = inr (refl, run.unwritten (omega arith))
  found (suc (suc (suc (suc (suc (suc (suc n))))))) text line run = absurd (omega (arith, run.range.0))

  handed : (room line_room n : ℕ) (text line : List ℕ) (answer : ℕ) (copy shown : List ℕ) → IsFound n text → IsHandedOver room line_room n text line answer copy shown
      → ((answer ≡ 0) × (copy ≡ codes "valid\n")) ⊎ (answer ≡ 5) ⊎ (answer ≡ 6)
  handed room line_room n text line answer copy shown is over = elim (cases_lt room (length text)) [
    | inl more ↦ inr (inl (over.cut_short more).0)
    | inr fits ↦ let h = over.fits fits in elim is [
      | inl valid ↦ inl (h.0 ∙ valid.0, h.1 ∙ valid.1)
      | inr six ↦ inr (inr (h.0 ∙ six.0))
    ]
  ]

not_five : {status : ℕ} → (status ≡ 0) ⊎ (status ≡ 1) → status ≡ 5 → ⊥
not_five (inl none) five = omega (arith, none, five)
not_five (inr one) five = omega (arith, one, five)

-- what `solve` gave with status 0 or 1 is its whole reply
whole_reply : (kind : Kind) (file other reply line : List ℕ) (room line_room status : ℕ) → IsRunOf (Some (solving kind)) file other room line_room status reply line → (status ≡ 0) ⊎ (status ≡ 1)
    → Replies (solving kind) (file ∷ []) status reply
whole_reply kind file other reply line room line_room status run either = elim (cases_lt room (length run.1)) [
  | inl more ↦ absurd (not_five either (run.4.cut_short more).0)
  | inr fits ↦
      let h = run.4.fits fits in
      subst (λ n. Replies (solving kind) (file ∷ []) n reply) (sym h.0)
      (subst (λ t. Replies (solving kind) (file ∷ []) run.0 t) (sym h.1) (run.3.reply (subst (λ n. (n ≡ 0) ⊎ (n ≡ 1)) h.0 either) (file ∷ []) (refl, tt)))
]

pub agreed : AgreedLaw → AgreedInMemoryLaw
agreed law kind file other reply line copy said room line_room room_2 line_room_2 status found_status first either second =
    let solved = whole_reply kind file other reply line room line_room status first either in
    let fine = is_fine kind file status reply solved in
    handed law kind file reply fine status solved room_2 line_room_2 second.0 second.1 second.2 found_status copy said
    (found law kind file reply fine status solved second.0 second.1 second.2 second.3) second.4
