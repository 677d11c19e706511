use Rattle.std.proofs.Common.{◌≡◌, ℕ, List, Option, Some, true, false, sym, subst}
use Rattle.std.specs.Prelude.{IfSome}
use Rattle.std.specs.FinMap.{contains_key, get}
use Rattle.vvp_edge.specs.Files.{Files}
use Rattle.vvp_edge.specs.Honest.{LentState, lent_files, told_files}
use Rattle.vvp_edge.proofs.HonestLemmas.{told-only, lent-found, lent-has, lent-lacks}
use Rattle.vvp_edge.proofs.honest.HonestStoreStore.open_file.Goals as goal

pub returns-then-not-same_name-clause-found : goal.returns-then-not-same_name-clause-found
returns-then-not-same_name-clause-found c =
    let name = c.self.inside.name.now in
    let bytes = c.self.inside.bytes.now in
    let shown : LentState = record { name = name; bytes = bytes; reading = c.self.inside.rest.now; writing = c.self.inside.writing } in
    subst (λ (s : LentState). IfSome (told_files s) (λ m. false ≡ contains_key m c.args.name.now)) c.self.view_is
    (told-only shown.writing (lent_files shown) (λ (m : Files). false ≡ contains_key m c.args.name.now)
    (lent-lacks name bytes c.args.name.now (λ same. let is : c.same_name.result ≡ true = c.same_name.ensures.1 same in cc)))

pub returns-clause-found : goal.returns-clause-found
returns-clause-found c =
    let name = c.self.inside.name.now in
    let bytes = c.self.inside.bytes.now in
    let shown : LentState = record { name = name; bytes = bytes; reading = c.self.inside.rest.now; writing = c.self.inside.writing } in
    subst (λ (s : LentState). IfSome (told_files s) (λ m. true ≡ contains_key m c.args.name.now)) c.self.view_is
    (told-only shown.writing (lent_files shown) (λ (m : Files). true ≡ contains_key m c.args.name.now)
    (lent-has name bytes c.args.name.now (c.same_name.ensures.0 c.if-not-same_name.false)))

pub returns-clause-opened : goal.returns-clause-opened
returns-clause-opened c = λ _.
    let name = c.self.inside.name.now in
    let bytes = c.self.inside.bytes.now in
    let shown : LentState = record { name = name; bytes = bytes; reading = c.self.inside.rest.now; writing = c.self.inside.writing } in
    let there : Option (List ℕ) = Some bytes in
    subst (λ (s : LentState). IfSome (told_files s) (λ m. there ≡ get m c.args.name.now)) c.self.view_is
    (told-only shown.writing (lent_files shown) (λ (m : Files). there ≡ get m c.args.name.now)
    (sym (lent-found name bytes c.args.name.now (c.same_name.ensures.0 c.if-not-same_name.false))))
