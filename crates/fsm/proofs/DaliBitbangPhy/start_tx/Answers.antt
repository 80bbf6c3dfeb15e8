-- `fsm::DaliBitbangPhy::start_tx` meets its contract. Assumes nothing.
use Rattle.std.proofs.Common.{◌≡◌, true, rules}
use Rattle.machine.specs.States.{is_idle}
use Rattle.fsm.proofs.DaliBitbangPhy.start_tx.Goals as goal

pub returns-then-eq-clause-answer_value : goal.returns-then-eq-clause-answer_value
unfolding is_idle
returns-then-eq-clause-answer_value c =
    let idle : is_idle c.args.self.core.bus.bus_state ≡ true = search rules in
    rw idle c.load_tx.ensures.answer_value
