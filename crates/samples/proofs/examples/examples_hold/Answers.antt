use Rattle.std.proofs.Common.{refl}
use Rattle.registers.specs.Amounts.{rounded}
use Rattle.registers.specs.Registers.{bounded, in_range}
use Rattle.full.specs.Terms.{code_ok, security_ok, asset_ok, number_ok, amount_ok, limit_ok, terms_of, bargain_of}
use Rattle.full.specs.Checks.{ready_of, found_of, matched_of, pair_of}
use Rattle.full.specs.OpenRegisters.{register_at, covered, block_on, paid_of, limit_raised, replaced, replacing}
use Rattle.full.specs.Calls.{enter_of, cover_at, announce_of, placed_of}
use Rattle.full.specs.Trades.{trade_registers_of, ended_of, exchange_of, trade_of}
use Rattle.partial.specs.Calls as two
use Rattle.pool.specs.Debts.{owed_over}
use Rattle.pool.specs.Calls as three
use Rattle.samples.proofs.examples.examples_hold.Goals as goal

pub returns : goal.returns
unfolding rounded bounded in_range code_ok security_ok asset_ok number_ok amount_ok limit_ok terms_of bargain_of ready_of found_of matched_of pair_of register_at covered block_on enter_of cover_at announce_of placed_of replaced replacing trade_registers_of paid_of limit_raised ended_of exchange_of trade_of two.participant_ok two.limit_opening_ok two.limit_row two.open_of two.debited two.spared two.debit_on two.debit_of two.cover_at two.announce_of two.drawn_from two.drawn_of two.partial_trade_of two.trade_of owed_over three.earmarked_amount three.earmarked three.earmark_at three.earmark_of three.third_lowered three.third_raised three.passed_from three.passed_of three.found_of three.settle_of
returns c = refl
