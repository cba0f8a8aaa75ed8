-- What a unit of work does: it asks questions one after the other, refers to units, and ends with a result. What it does next depends on the answers alone.
--
-- Q are questions, A answers, U units and R results.

pub data Prog (Q A U R : Type 0) : Type 0 where
  -- the result
  done : R → Prog Q A U R
  -- a question, and how it goes on with each answer
  ask : Q → (A → Prog Q A U R) → Prog Q A U R
  -- a unit that it refers to, without waiting for it, and how it goes on
  refer : U → Prog Q A U R → Prog Q A U R

-- one program and then another, which is given the first one's result
abbrev pub bind : {Q A U R S : Type 0} → Prog Q A U R → (R → Prog Q A U S) → Prog Q A U S
bind (done r) next = next r
bind (ask q rest) next = ask q (λ a. bind (rest a) next)
bind (refer u p) next = refer u (bind p next)
