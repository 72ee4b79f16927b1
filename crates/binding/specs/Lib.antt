pub mod OneClaim
