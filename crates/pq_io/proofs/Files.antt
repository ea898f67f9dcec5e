-- Files by name, of which the last one of a name counts.
use Rattle.std.proofs.Common.{◌≡◌, ◌≢◌, ℕ, zero, suc, ◌+◌, ◌<◌, Bool, true, false, List, [], ◌∷◌, ◌++◌, length, string_bytes, slice_get, Option, Some, None, IfSome, refl, ap, ◌∙◌, arith, fold, if◌then◌else◌, ◌||◌}
use Rattle.std.proofs.lemmas.Slice.Eq.{bytes_eq-Decides}
use Rattle.std.specs.Str.{bytes_eq}
use Rattle.pq_io.specs.NamedFiles.{content_of}
use Rattle.pq_io.specs.MemFile.{named_files, bytes_at, has_name, IsNamedByNone}
use Rattle.pq_io.specs.declared.mem_shelf.MemFile.{MemFile}

-- what a search that has found something finds in further files
abbrev content_after : Option (List ℕ) → List MemFile → List ℕ → Option (List ℕ)
content_after found files name = fold (λ found file. if bytes_eq file.name name then Some file.bytes else found) found (named_files files)

-- a test that isn't true is false
not_true : (test : Bool) → test ≢ true → test ≡ false
not_true true untrue = absurd (untrue refl)
not_true false untrue = refl

-- one of two tests holds where the second does
pub or_right : (first second : Bool) → second ≡ true → (first || second) ≡ true
or_right true second holds = refl
or_right false second holds = holds

-- neither of two tests holds
pub or_neither : (first second : Bool) → first ≡ false → second ≡ false → (first || second) ≡ false
or_neither true second fails fails_too = fails
or_neither false second fails fails_too = fails_too

-- a file of another name changes nothing
kept : (file : MemFile) (name : List ℕ) (found : Option (List ℕ)) → has_name name file ≡ false → (if has_name name file then Some file.bytes.items else found) ≡ found
kept file name found other = ap (λ named. if named then Some file.bytes.items else found) other

-- a file of the name is found
taken : (file : MemFile) (name : List ℕ) (found : Option (List ℕ)) → has_name name file ≡ true
    → (if has_name name file then Some file.bytes.items else found) ≡ Some file.bytes.items
taken file name found same = ap (λ named. if named then Some file.bytes.items else found) same

-- files of other names change nothing
content_after-others : (files : List MemFile) (name : List ℕ) (found : Option (List ℕ)) → IsNamedByNone name 0 files → content_after found files name ≡ found
content_after-others [] name found others = refl
content_after-others (file ∷ files) name found others =
    ap (λ found. content_after found files name) (kept file name found (others 0 (omega arith) (omega arith)))
    ∙ content_after-others files name found (λ k above within. others (suc k) (omega arith) (omega arith))

-- where no file has the name there are no bytes
pub content_of-others : (files : List MemFile) (name : List ℕ) → IsNamedByNone name 0 files → content_of (named_files files) name ≡ None
content_of-others files name others = content_after-others files name None others

content_after-last : (files : List MemFile) (name : List ℕ) (found : Option (List ℕ)) (i : ℕ) → i < length files → IfSome (slice_get files i) (λ file. has_name name file ≡ true)
    → IsNamedByNone name (i + 1) files → content_after found files name ≡ Some (bytes_at files i)
content_after-last [] name found i within named others = absurd (omega arith)
content_after-last (file ∷ files) name found zero within named others =
    ap (λ found. content_after found files name) (taken file name found named)
    ∙ content_after-others files name (Some file.bytes.items) (λ k above within. others (suc k) (omega arith) (omega arith))
content_after-last (file ∷ files) name found (suc i) within named others =
    content_after-last files name _ i (omega arith) named (λ k above within. others (suc k) (omega arith) (omega arith))

-- the last file with the name has its bytes
pub content_of-last : (files : List MemFile) (name : List ℕ) (i : ℕ) → i < length files → IfSome (slice_get files i) (λ file. has_name name file ≡ true)
    → IsNamedByNone name (i + 1) files → content_of (named_files files) name ≡ Some (bytes_at files i)
content_of-last files name i within named others = content_after-last files name None i within named others

-- one more file is looked at last
content_after-append : (files : List MemFile) (file : MemFile) (name : List ℕ) (found : Option (List ℕ))
    → content_after found (files ++ file ∷ []) name ≡ (if has_name name file then Some file.bytes.items else content_after found files name)
content_after-append [] file name found = refl
content_after-append (first ∷ files) file name found = content_after-append files file name _

-- a file that was added has its bytes
pub content_of-added : (old new : List MemFile) (file : MemFile) (name bytes : List ℕ) → new ≡ old ++ file ∷ [] → string_bytes file.name ≡ name → file.bytes.items ≡ bytes
    → content_of (named_files new) name ≡ Some bytes
content_of-added old new file name bytes added named is =
    ap (λ files. content_of (named_files files) name) added ∙ content_after-append old file name None
    ∙ taken file name _ ((bytes_eq-Decides (string_bytes file.name) name).1 named) ∙ ap Some is

-- a file of another name has the bytes that it had
pub content_of-added_other : (old new : List MemFile) (file : MemFile) (other : List ℕ) → new ≡ old ++ file ∷ [] → string_bytes file.name ≢ other
    → content_of (named_files new) other ≡ content_of (named_files old) other
content_of-added_other old new file other added apart =
    ap (λ files. content_of (named_files files) other) added ∙ content_after-append old file other None
    ∙ kept file other _ (not_true (has_name other file) (λ same. apart ((bytes_eq-Decides (string_bytes file.name) other).0 same)))
