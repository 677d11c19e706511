use Rattle.std.proofs.Common.{◌≤◌, List, length, Ok, ap, sym, subst, ◌∙◌, arith}
use Rattle.sym_link.specs.declared.placed.Placed.{Placed}
use Rattle.sym_link.specs.KnownNets.{KnowsNets}
use Rattle.sym_link.specs.Meaning.{linked, program_of, refused_or}
use Rattle.sym_link.specs.Sound.{IsProgram}
use Rattle.sym_link.proofs.FormedLemmas.{units-near, widths-formed}
use Rattle.sym_link.proofs.GrammarLemmas.{read-few}
use Rattle.sym_link.proofs.SoundProgram.{is-program}
use Rattle.sym_link.proofs.linking.link.Goals as goal

pub new-requires : goal.new-requires
new-requires c =
    let few : length c.args.placed.items ≤ length c.args.src.now = read-few c.args.src.now c.args.placed.items c.requires.given in
    omega (arith, c.requires.small, ap length c.deref.ensures.value)

pub returns-in-Some-clause-answer : goal.returns-in-Some-clause-answer
unfolding linked
returns-in-Some-clause-answer c =
    let src = c.args.src.now in
    let all = c.args.placed.items in
    let nets = c.in_ok-nets.nets in
    let k = c.in_ok-file.ensures in
    let placed = k.statements ∙ c.deref.ensures.value in
    let known = subst (λ x. KnowsNets x all nets) k.source (subst (λ (l : List Placed). KnowsNets c.in_ok-file.file.src.now l nets) placed c.in_ok-nets.ensures) in
    ap (λ o. refused_or o (program_of src all)) (sym (c.in_ok-line.ensures src all known) ∙ c.in-Some.is)

pub returns-clause-answer : goal.returns-clause-answer
unfolding linked
returns-clause-answer c =
    let src = c.args.src.now in
    let all = c.args.placed.items in
    let nets = c.in_ok-nets.nets in
    let k = c.in_ok-file.ensures in
    let placed = k.statements ∙ c.deref.ensures.value in
    let known = subst (λ x. KnowsNets x all nets) k.source (subst (λ (l : List Placed). KnowsNets c.in_ok-file.file.src.now l nets) placed c.in_ok-nets.ensures) in
    let none = sym (c.in_ok-line.ensures src all known) ∙ c.in_default.is in
    ap (λ o. refused_or o (program_of src all)) none
    ∙ ap Ok (sym (c.in_ok-program_of.ensures src all known (widths-formed src all c.requires.given) (units-near src all c.requires.given) none))

pub returns-clause-sound : goal.returns-clause-sound
returns-clause-sound c =
    let src = c.args.src.now in
    let all = c.args.placed.items in
    let nets = c.in_ok-nets.nets in
    let k = c.in_ok-file.ensures in
    let placed = k.statements ∙ c.deref.ensures.value in
    let known = subst (λ x. KnowsNets x all nets) k.source (subst (λ (l : List Placed). KnowsNets c.in_ok-file.file.src.now l nets) placed c.in_ok-nets.ensures) in
    let none = sym (c.in_ok-line.ensures src all known) ∙ c.in_default.is in
    subst IsProgram (sym (c.in_ok-program_of.ensures src all known (widths-formed src all c.requires.given) (units-near src all c.requires.given) none))
    (is-program src all c.requires.given none)
