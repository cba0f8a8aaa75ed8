use Rattle.zir_astgen.proofs.outline.+lead_of.Given as goal

abbrev pub decreases-lead_of : goal.decreases-lead_of
decreases-lead_of l = l.before
