-- Files that a shelf tells, also those that were never opened.
use Rattle.std.proofs.Common.{◌≡◌, ◌⊎◌, ℕ, zero, suc, List, [], ◌∷◌, length, take, Option, Some, inl, inr, subst, sym, arith}
use Rattle.std.proofs.lemmas.List.{take_all}
use Rattle.std.proofs.lemmas.Slice.Zip.{AllZip-long}
use Rattle.row_model.specs.declared.refusal.Refusal.{Refusal}
use Rattle.row_model.specs.declared.refusal.Read.{Read}
use Rattle.row_model.specs.declared.refusal.Read.TheVariants as read
use Rattle.matrix_read.specs.Sparse.{further}
use Rattle.instance_model.specs.Instance.{InstanceValue, derived_matrix}
use Rattle.file_io.specs.Taken.{Taken}
use Rattle.command_input.specs.Words.{Command, Solve, Check, Extend, Gen, Meet, ListOrders, UnitModel, CheckUnit, Core, CheckCore, files_of}
use Rattle.command_input.specs.Instances.{instance_of}
use Rattle.command_input.specs.TreeFiles.{tree_file}
use Rattle.pq_cli.specs.Replies.{refused_at, refused_of_two, refusal_of}
use Rattle.pq_cli.specs.Runs.{AllFit, taken_since, TakesFiles}
use Rattle.pq_cli.specs.Promise.{Completes, KeepsPromise}
use Rattle.pq_cli.specs.Told.{AllTold, WhereToldFine, CompletesOverTold, KeepsPromiseOverTold}
use Rattle.pq_cli.proofs.RealLaws.{told_fits}

-- where the first of two files is refused, the two are refused so
two_first : {T U : Type 0} (first : Read T) (second : T → Read U) (found : ℕ × Refusal) → refused_at 1 first ≡ Some found → refused_of_two first second ≡ Some found
two_first (read.Ok i) second found e = absurd (cc)
two_first (read.Refused refusal) second found e = e

-- where some first files of a command are refused, all of them are, and so
refused_first : (c : Command) (n : ℕ) (files : List (List ℕ)) (found : ℕ × Refusal) → refusal_of c (take n files) ≡ Some found → refusal_of c files ≡ Some found
refused_first c zero files found e = absurd (cc)
refused_first c (suc n) [] found e = e
refused_first (Solve kind name) (suc n) (bytes ∷ files) found e = e
refused_first (Check kind name other) (suc n) (bytes ∷ files) found e = e
refused_first (Extend kind name other) (suc zero) (bytes ∷ []) found e = e
refused_first (Extend kind name other) (suc (suc n)) (bytes ∷ []) found e = e
refused_first (Extend kind name other) (suc zero) (bytes ∷ given ∷ files) found e = two_first (instance_of kind bytes) (λ (i : InstanceValue). further (derived_matrix i 1).columns given) found e
refused_first (Extend kind name other) (suc (suc n)) (bytes ∷ given ∷ files) found e = e
refused_first (Core kind name) (suc n) (bytes ∷ files) found e = e
refused_first (CheckCore kind name other) (suc n) (bytes ∷ files) found e = e
refused_first (Gen seed columns rows) (suc n) (bytes ∷ files) found e = e
refused_first (Meet c name other) (suc zero) (bytes ∷ []) found e = e
refused_first (Meet c name other) (suc (suc n)) (bytes ∷ []) found e = e
refused_first (Meet c name other) (suc zero) (bytes ∷ given ∷ files) found e = two_first (tree_file c bytes) (λ _. tree_file c given) found e
refused_first (Meet c name other) (suc (suc n)) (bytes ∷ given ∷ files) found e = e
refused_first (ListOrders kind name count) (suc n) (bytes ∷ files) found e = e
refused_first (UnitModel name) (suc n) (bytes ∷ files) found e = e
refused_first (CheckUnit name other) (suc n) (bytes ∷ files) found e = e

-- the first of files that are told are told
first_told : (told : List ℕ → Option (List ℕ)) (n : ℕ) (names files : List (List ℕ)) → AllTold told names files → AllTold told (take n names) (take n files)
first_told told zero names files all = tt
first_told told (suc n) [] [] all = tt
first_told told (suc n) [] (bytes ∷ files) all = absurd all
first_told told (suc n) (name ∷ names) [] all = absurd all
first_told told (suc n) (name ∷ names) (bytes ∷ files) all = (all.0, first_told told n names files all.1)

module _ {S : Type 0} (content : S → List ℕ → Option (List ℕ)) (taken : S → List Taken) (faults : S → ℕ) (old new : S) (c : Command) (status : ℕ) (takes : TakesFiles content taken faults old new c status) where
  abbrev ts : List Taken
  ts = taken_since (taken old) (taken new)

  -- what was taken fits the first of the files that are told
  first_fit : (files : List (List ℕ)) → AllTold (content old) (files_of c) files → AllFit ts (take (length ts) files)
  first_fit files all =
      told_fits (content old) ts (take (length ts) files) takes.asks.agree
      (subst (λ names. AllTold (content old) names (take (length ts) files)) (sym takes.asks.names) (first_told (content old) (length ts) (files_of c) files all))

  -- where there is a reply, it fits all of them
  all_fit : (status ≡ 0) ⊎ (status ≡ 1) → (files : List (List ℕ)) → AllTold (content old) (files_of c) files → AllFit ts files
  all_fit either files all =
      subst (AllFit ts) (take_all (length ts) files (omega (arith, takes.asks.on_reply (elim either [ inl is_yes ↦ inl is_yes | inr is_no ↦ inr (inl is_no) ]), AllZip-long (λ name bytes. content old name ≡ Some bytes) (files_of c) files all))) (first_fit files all)

  module _ (before after : Option (List ℕ)) (completes : Completes ts c before after status) where
    answered : WhereToldFine (content old) c (λ files. (status ≡ 0) ⊎ (status ≡ 1))
    answered files all none =
        elim completes.ends [
          | inl is_yes ↦ inl is_yes
          | inr (inl is_no) ↦ inr is_no
          | inr (inr three) ↦
              let ends = takes.refused three in
              let found : refusal_of c files ≡ Some (ends.0, ends.1) = refused_first c (length ts) files (ends.0, ends.1) (ends.2.first (take (length ts) files) (first_fit files all)) in
              absurd (cc)
        ]

    pub completes_over_told : CompletesOverTold (content old) c before after status
    completes_over_told =
        record {
          ends = completes.ends;
          refused = λ files all is. elim completes.ends [
            | inl is_yes ↦ completes.refused files (all_fit (inl is_yes) files all) is
            | inr (inl is_no) ↦ completes.refused files (all_fit (inr is_no) files all) is
            | inr (inr three) ↦ three
          ];
          answered = answered;
          reply = λ files all none. completes.reply files (all_fit (answered files all none) files all) none;
        }

    pub promise_over_told : KeepsPromise ts c before after status → KeepsPromiseOverTold (content old) c before after status
    promise_over_told keeps files all none = keeps files (all_fit (answered files all none) files all) none
