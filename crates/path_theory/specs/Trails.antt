-- Lists that grow at their end, as what has happened so far does.

pub data Trail (A : Type 0) : Type 0 where
  Start : Trail A
  More : Trail A → A → Trail A
