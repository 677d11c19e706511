-- Files in a list, of which the newest stands last.
use Rattle.std.proofs.Common.{◌≡◌, ℕ, ◌+◌, ◌-◌, ◌<◌, ◌≤◌, List, [], ◌∷◌, ◌++◌, length, take, get_or, map, reverse, sym, ap, subst, ◌∙◌, arith, take_all, Option, Some, None}
use Rattle.std.proofs.lemmas.List.Elements.{All-weaker}
use Rattle.std.specs.Prelude.{Result, Ok, Err, IfOk, OnErr, MatchResult, All, IfSome, IsTrue, is_some, option_map, drop, vec_len, vec_capacity}
use Rattle.std.proofs.lemmas.List.{take-append-drop, length-drop, drop-drop, take_more, map-append, reverse-append}
use Rattle.std.specs.Ordering.{nat_cmp}
use Rattle.std.specs.Cmp.Lexicographic.{slice_cmp}
use Rattle.std.specs.FinMap.{get, insert, get-empty}
use Rattle.vvp_edge.specs.MemoryStore.{StoreState, after_append, entries_of, entry_of, files_in, files_of}
use Rattle.vvp_edge.specs.Files.{appended}
use Rattle.vvp_edge.specs.Counts.{counted, next_call}
use Rattle.vvp_edge.specs.declared.mem_files.NamedFile.{NamedFile}
use Rattle.vvp_edge.proofs.FilesLemmas.{with_appended-insert, get-insert_same, get-insert_other}

pub newest_first : (files : List NamedFile) (m : ℕ) (file : NamedFile) → m < length files → file ≡ get_or files m file
    → reverse (map entry_of (take (m + 1) files)) ≡ entry_of file ∷ reverse (map entry_of (take m files))
newest_first files m file within is =
    ap (λ (xs : List NamedFile). reverse (map entry_of xs)) (take_more files m file within)
    ∙ ap (λ (x : NamedFile). reverse (map entry_of (take m files ++ x ∷ []))) (sym is)
    ∙ ap reverse (map-append entry_of (take m files) (file ∷ []))
    ∙ reverse-append (map entry_of (take m files)) (entry_of file ∷ [])

-- what stands under a name in the first n files
abbrev under : List NamedFile → List ℕ → ℕ → Option (List ℕ)
under files q n = get (files_in (reverse (map entry_of (take n files)))) q

at_newest : (files : List NamedFile) (left : ℕ) (file : NamedFile) (q : List ℕ) → 0 < left → left ≤ length files → file ≡ get_or files (left - 1) file
    → under files q left ≡ get (insert (files_in (reverse (map entry_of (take (left - 1) files)))) file.name.items file.bytes.items) q
at_newest files left file q some within is =
    let more : left ≡ (left - 1) + 1 = omega arith in
    let here : left - 1 < length files = omega arith in
    ap (under files q) more
    ∙ ap (λ (es : List (List ℕ × List ℕ)). get (files_in es) q) (newest_first files (left - 1) file here is)

-- the newest has another name
pub passed_on : (files : List NamedFile) (left : ℕ) (file : NamedFile) (q : List ℕ) → 0 < left → left ≤ length files → file ≡ get_or files (left - 1) file
    → (q ≡ file.name.items → ⊥)
    → get (files_in (reverse (map entry_of (take left files)))) q ≡ get (files_in (reverse (map entry_of (take (left - 1) files)))) q
passed_on files left file q some within is other =
    at_newest files left file q some within is ∙ get-insert_other _ file.name.items file.bytes.items q other

-- the newest has the name
pub newest_found : (files : List NamedFile) (left : ℕ) (file : NamedFile) (q : List ℕ) → 0 < left → left ≤ length files → file ≡ get_or files (left - 1) file
    → q ≡ file.name.items → get (files_in (reverse (map entry_of (take left files)))) q ≡ Some file.bytes.items
newest_found files left file q some within is same =
    at_newest files left file q some within is
    ∙ ap (get (insert (files_in (reverse (map entry_of (take (left - 1) files)))) file.name.items file.bytes.items)) same
    ∙ get-insert_same _ file.name.items file.bytes.items

pub none_left : (files : List NamedFile) (left : ℕ) (q : List ℕ) → left ≡ 0 → get (files_in (reverse (map entry_of (take left files)))) q ≡ None
none_left files left q none = ap (under files q) none ∙ get-empty (slice_cmp nat_cmp) q

-- ---- what fits into a buffer

abbrev Fits : ℕ → ℕ → NamedFile → Type 0
Fits room most file = vec_len file.bytes + room ≤ most

pub same_files_fit : (a b : List NamedFile) (room most : ℕ) → b ≡ a → All (Fits room most) a → All (Fits room most) b
same_files_fit a b room most same fits = subst (All (Fits room most)) (sym same) fits

pub target_fits : (target : Option NamedFile) (room old new : ℕ) → old ≤ new
    → IfSome target (λ f. Fits room old f × (vec_len f.bytes + room ≤ vec_capacity f.bytes))
    → IfSome target (λ f. Fits room new f × (vec_len f.bytes + room ≤ vec_capacity f.bytes))
target_fits None room old new grew fits = fits
target_fits (Some f) room old new grew fits = (omega (arith, fits.0), fits.1)

-- ---- the file that is written

newest_entry_found : (entries : List (List ℕ × List ℕ)) (name bytes q : List ℕ) → q ≡ name → get (files_in ((name, bytes) ∷ entries)) q ≡ Some bytes
newest_entry_found entries name bytes q same = ap (get (insert (files_in entries) name bytes)) same ∙ get-insert_same (files_in entries) name bytes

pub target_found : (target : Option NamedFile) (file : NamedFile) (entries : List (List ℕ × List ℕ)) (q : List ℕ) → target ≡ Some file → q ≡ file.name.items
    → Some file.bytes.items ≡ get (files_in (entries_of entries (option_map entry_of target))) q
target_found target file entries q is same =
    sym (newest_entry_found (reverse entries) file.name.items file.bytes.items q same)
    ∙ ap (λ (t : Option NamedFile). get (files_in (entries_of entries (option_map entry_of t))) q) (sym is)

pub target_passed : (target : Option NamedFile) (file : NamedFile) (entries : List (List ℕ × List ℕ)) (q : List ℕ) → target ≡ Some file → (q ≡ file.name.items → ⊥)
    → get (files_in (reverse entries)) q ≡ get (files_in (entries_of entries (option_map entry_of target))) q
target_passed target file entries q is other =
    sym (get-insert_other (files_in (reverse entries)) file.name.items file.bytes.items q other)
    ∙ ap (λ (t : Option NamedFile). get (files_in (entries_of entries (option_map entry_of t))) q) (sym is)

-- what is read, in two parts
pub read_on : (items front : List ℕ) (from n : ℕ) → from ≤ length items → front ≡ take n (take (length items - from) (drop from items))
    → drop from items ≡ front ++ drop (from + n) items
read_on items front from n within is =
    sym (take-append-drop n (drop from items))
    ∙ ap (λ (rest : List ℕ). take n (drop from items) ++ rest) (drop-drop n from items)
    ∙ ap (λ (xs : List ℕ). xs ++ drop (from + n) items) (sym (is ∙ ap (take n) (take_all (length items - from) (drop from items) (rw length-drop (omega arith)))))

-- ---- a store after a call

appended_by : (target : Option (List ℕ × List ℕ)) (kept : List (List ℕ × List ℕ)) (taken : List ℕ) → IsTrue (is_some target)
    → Some (files_in (entries_of kept (option_map (λ (e : List ℕ × List ℕ). (e.0, e.1 ++ taken)) target)))
    ≡ appended (Some (files_in (entries_of kept target))) (option_map (λ (e : List ℕ × List ℕ). e.0) target) taken
appended_by None kept taken is = cc
appended_by (Some entry) kept taken is = ap Some (sym (with_appended-insert (files_in (reverse kept)) entry.0 entry.1 taken))

pub after_append-files : (store : StoreState) (taken : List ℕ) → IsTrue (is_some store.target)
    → Some (files_of (after_append store taken)) ≡ appended (Some (files_of store)) (option_map (λ (e : List ℕ × List ℕ). e.0) store.target) taken
after_append-files store taken is = appended_by store.target store.kept taken is

-- the files after an append that was answered
pub append_files : {E : Type 0} (result : Result ℕ E) (old new : StoreState) (piece : List ℕ) → IsTrue (is_some old.target)
    → IfOk result (λ n. new ≡ after_append old (take n piece)) → OnErr result (new ≡ record old { appends = next_call old.appends; faults = counted old.faults })
    → MatchResult result (λ n. Some (files_of new) ≡ appended (Some (files_of old)) (option_map (λ (e : List ℕ × List ℕ). e.0) old.target) (take n piece))
    (λ _. Some (files_of new) ≡ Some (files_of old))
append_files (Ok n) old new piece is done failed = ap (λ (s : StoreState). Some (files_of s)) done ∙ after_append-files old (take n piece) is
append_files (Err e) old new piece is done failed = ap (λ (s : StoreState). Some (files_of s)) failed

-- the first of two bounds on the file that is written
pub target_bound : (target : Option NamedFile) (room most : ℕ) → IfSome target (λ f. Fits room most f × (vec_len f.bytes + room ≤ vec_capacity f.bytes)) → IfSome target (Fits room most)
target_bound None room most fits = fits
target_bound (Some f) room most fits = fits.0

-- less room is wanted of the files that are kept
pub less_fits : (files : List NamedFile) (room less most : ℕ) → less ≤ room → All (Fits room most) files → All (Fits less most) files
less_fits files room less most smaller fits = All-weaker (Fits room most) (Fits less most) (λ f fit. omega (arith, fit)) files fits

-- what is read from a buffer, in two parts
pub read_from : (items buffer front : List ℕ) (from n : ℕ) → buffer ≡ items → from ≤ length items → front ≡ take n (take (length buffer - from) (drop from buffer))
    → drop from items ≡ front ++ drop (from + n) items
read_from items buffer front from n same within is =
    read_on items front from n within (is ∙ ap (λ (xs : List ℕ). take n (take (length xs - from) (drop from xs))) same)

pub same_target_fits : (a b : Option NamedFile) (room most : ℕ) → b ≡ a → IfSome a (Fits room most) → IfSome b (Fits room most)
same_target_fits a b room most same fits = subst (λ (t : Option NamedFile). IfSome t (Fits room most)) (sym same) fits

-- a file that was just created, where less room is left than it has
pub new_target_fits : (target : Option NamedFile) (file : NamedFile) (room less most : ℕ) → target ≡ Some file → vec_len file.bytes ≡ 0 → room ≤ vec_capacity file.bytes
    → room ≤ most → less ≤ room → IfSome target (λ f. Fits less most f × (vec_len f.bytes + less ≤ vec_capacity f.bytes))
new_target_fits target file room less most is empty wide fits smaller =
    subst (λ (t : Option NamedFile). IfSome t (λ f. Fits less most f × (vec_len f.bytes + less ≤ vec_capacity f.bytes))) (sym is) (omega arith, omega arith)
