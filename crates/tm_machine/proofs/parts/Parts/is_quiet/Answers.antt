use Rattle.std.proofs.Common.{◌≡◌, ◌+◌, ◌<◌, ◌≤◌, ◌&&◌, length, drop, refl, sym, ap, ◌∙◌, arith}
use Rattle.model_machine.specs.MachineCalls.{all_rest}
use Rattle.tm_machine.proofs.Resting.{all_rest_step, all_rest_end, slots_length}
use Rattle.tm_machine.proofs.parts.Parts.is_quiet.Goals as goal

pub loop-place-init : goal.loop-place-init
loop-place-init c = refl

pub returns-then-not-rests : goal.returns-then-not-rests
returns-then-not-rests c =
    let slots = ap (λ m. m.moment.slots) c.self.view_is in
    let len : length c.args.self.now.moment.slots ≡ length c.self.inside.regions.items = sym (ap length slots) ∙ slots_length c.self.inside.regions.items in
    let items : length c.deref-work-items.result.now ≡ length c.self.inside.regions.items = ap length c.deref-work-items.ensures.value in
    let test = c.loop-place-test.true in
    let within : c.loop-place.place < length c.args.self.now.moment.slots = omega (arith, len, items, test) in
    sym (c.loop-place.invariant ∙ all_rest_step c.args.self.now.system c.args.self.now.moment (c.loop-place.place + 1) c.args.self.now.moment.slots c.loop-place.place within
    ∙ ap (λ b. b && all_rest c.args.self.now.system c.args.self.now.moment (c.loop-place.place + 1 + 1) (drop (c.loop-place.place + 1) c.args.self.now.moment.slots)) (sym c.if-not-rests.ensures))

pub loop-place-preserved : goal.loop-place-preserved
loop-place-preserved c =
    let slots = ap (λ m. m.moment.slots) c.self.view_is in
    let len : length c.args.self.now.moment.slots ≡ length c.self.inside.regions.items = sym (ap length slots) ∙ slots_length c.self.inside.regions.items in
    let items : length c.deref-work-items.result.now ≡ length c.self.inside.regions.items = ap length c.deref-work-items.ensures.value in
    let test = c.loop-place-test.true in
    let within : c.loop-place.place < length c.args.self.now.moment.slots = omega (arith, len, items, test) in
    c.loop-place.invariant ∙ all_rest_step c.args.self.now.system c.args.self.now.moment (c.loop-place.place + 1) c.args.self.now.moment.slots c.loop-place.place within
    ∙ ap (λ b. b && all_rest c.args.self.now.system c.args.self.now.moment (c.loop-place.place + 1 + 1) (drop (c.loop-place.place + 1) c.args.self.now.moment.slots)) (sym c.if-not-rests.ensures)

pub returns : goal.returns
returns c =
    let slots = ap (λ m. m.moment.slots) c.self.view_is in
    let len : length c.args.self.now.moment.slots ≡ length c.self.inside.regions.items = sym (ap length slots) ∙ slots_length c.self.inside.regions.items in
    let items : length c.deref-work-items.result.now ≡ length c.self.inside.regions.items = ap length c.deref-work-items.ensures.value in
    let test = c.loop-place-test.false in
    let past : length c.args.self.now.moment.slots ≤ c.loop-place.place = omega (arith, len, items, test) in
    sym (c.loop-place.invariant ∙ all_rest_end c.args.self.now.system c.args.self.now.moment (c.loop-place.place + 1) c.args.self.now.moment.slots c.loop-place.place past)
