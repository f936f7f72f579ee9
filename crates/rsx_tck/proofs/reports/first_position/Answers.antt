use Rattle.rsx_tck.specs.declared.rule.Rule.TheVariants as rule
use Rattle.rsx_tck.proofs.Twelve.{found_rule, found_twelve}
use Rattle.rsx_tck.proofs.reports.first_position.Goals as goal

pub returns-in-Rule1_1 : goal.returns-in-Rule1_1
returns-in-Rule1_1 c = found_rule c.args.rule rule.Rule1_1 c.args.trace.now c.first_breach_of_any.result c.in-Rule1_1.is c.first_breach_of_any.ensures

pub returns-in-Rule1_3 : goal.returns-in-Rule1_3
returns-in-Rule1_3 c = found_rule c.args.rule rule.Rule1_3 c.args.trace.now c.first_breach_of_any-in-Rule1_3.result c.in-Rule1_3.is c.first_breach_of_any-in-Rule1_3.ensures

pub returns-in-Rule1_7 : goal.returns-in-Rule1_7
returns-in-Rule1_7 c = found_rule c.args.rule rule.Rule1_7 c.args.trace.now c.first_breach_of_any-in-Rule1_7.result c.in-Rule1_7.is c.first_breach_of_any-in-Rule1_7.ensures

pub returns-in-Rule1_9 : goal.returns-in-Rule1_9
returns-in-Rule1_9 c = found_rule c.args.rule rule.Rule1_9 c.args.trace.now c.first_breach_of_any-in-Rule1_9.result c.in-Rule1_9.is c.first_breach_of_any-in-Rule1_9.ensures

pub returns-in-Rule1_10 : goal.returns-in-Rule1_10
returns-in-Rule1_10 c = found_rule c.args.rule rule.Rule1_10 c.args.trace.now c.first_breach_of_any-in-Rule1_10.result c.in-Rule1_10.is c.first_breach_of_any-in-Rule1_10.ensures

pub returns-in-Rule2_1 : goal.returns-in-Rule2_1
returns-in-Rule2_1 c = found_rule c.args.rule rule.Rule2_1 c.args.trace.now c.first_breach_of_any-in-Rule2_1.result c.in-Rule2_1.is c.first_breach_of_any-in-Rule2_1.ensures

pub returns-in-Rule2_3 : goal.returns-in-Rule2_3
returns-in-Rule2_3 c = found_rule c.args.rule rule.Rule2_3 c.args.trace.now c.first_breach_of_any-in-Rule2_3.result c.in-Rule2_3.is c.first_breach_of_any-in-Rule2_3.ensures

pub returns-in-Rule2_5 : goal.returns-in-Rule2_5
returns-in-Rule2_5 c = found_rule c.args.rule rule.Rule2_5 c.args.trace.now c.first_breach_of_any-in-Rule2_5.result c.in-Rule2_5.is c.first_breach_of_any-in-Rule2_5.ensures

pub returns-in-Rule2_12 : goal.returns-in-Rule2_12
returns-in-Rule2_12 c = found_rule c.args.rule rule.Rule2_12 c.args.trace.now c.first_breach_of_any-in-Rule2_12.result c.in-Rule2_12.is c.first_breach_of_any-in-Rule2_12.ensures

pub returns-in-Rule3_6 : goal.returns-in-Rule3_6
returns-in-Rule3_6 c = found_rule c.args.rule rule.Rule3_6 c.args.trace.now c.first_breach_of_any-in-Rule3_6.result c.in-Rule3_6.is c.first_breach_of_any-in-Rule3_6.ensures

pub returns-in-Rule3_9 : goal.returns-in-Rule3_9
returns-in-Rule3_9 c = found_rule c.args.rule rule.Rule3_9 c.args.trace.now c.first_breach_of_any-in-Rule3_9.result c.in-Rule3_9.is c.first_breach_of_any-in-Rule3_9.ensures

pub returns-in-Rule3_17 : goal.returns-in-Rule3_17
returns-in-Rule3_17 c = found_rule c.args.rule rule.Rule3_17 c.args.trace.now c.first_breach_of_any-in-Rule3_17.result c.in-Rule3_17.is c.first_breach_of_any-in-Rule3_17.ensures

pub returns-in-Rule4_1 : goal.returns-in-Rule4_1
returns-in-Rule4_1 c = found_rule c.args.rule rule.Rule4_1 c.args.trace.now c.first_breach_of_any-in-Rule4_1.result c.in-Rule4_1.is
    (found_twelve c.args.trace.now c.first_breach_of_any-in-Rule4_1.result c.first_breach_of_any-in-Rule4_1.ensures)
